use Rattle.std.proofs.Common.{◌∙◌, ◌+◌, ◌-◌, ◌<◌, min, ap, arith, length}
use Rattle.fw_posted.proofs.PartFacts.{few_segments, parts_count}
use Rattle.fw_posted.proofs.WithdrawFacts.{IsNext, IsTurn, next_without, none_without, place_within, turn_of}
use Rattle.fw_posted.proofs.withdrawing.parts_without.Goals as goal
use Rattle.fw_posted.proofs.withdrawing.parts_without.Goals.{After-get-rows, After-start, After-min-here}

-- the segment is there, and so is its part
within : (c : After-get-rows) → c.loop-row.segment < length c.args.segments.now
within c =
    place_within c.args.segments.now c.args.parts.now c.loop-row.after c.args.start c.loop-row.row (c.args.start + c.args.count) c.loop-row.segment c.loop-row.invariant c.loop-row-test.true c.requires.inside

part_within : (c : After-get-rows) → c.loop-row.segment < length c.loop-row.after
part_within c =
    let count = parts_count 0 c.loop-row.after c.args.segments.now c.loop-row.invariant.are in
    omega (arith, count, within c)

turn : (c : After-start) → IsTurn c.args.segments.now c.loop-row.after c.loop-row.row (c.args.start + c.args.count) c.loop-row.segment c.get-rows.result.now c.get-part.result.now
turn c =
    turn_of c.args.segments.now c.args.parts.now c.loop-row.after c.args.start c.loop-row.row (c.args.start + c.args.count) c.loop-row.segment c.get-rows.result.now c.get-part.result.now c.loop-row.invariant c.loop-row-test.true c.get-rows.ensures c.get-part.ensures

pub overflow_add-behind : goal.overflow_add-behind
overflow_add-behind c = omega (arith, c.requires.inside, c.requires.fits)

pub loop-row-init : goal.loop-row-init
loop-row-init c =
    rw c.in_ok-after.ensures (none_without c.args.segments.now c.args.parts.now c.args.start c.args.count c.segment_of-segment.result c.requires.parts c.segment_of-segment.ensures.from c.segment_of-segment.ensures.until)

pub get-part-requires : goal.get-part-requires
get-part-requires c = part_within ((goal.at.get-part-requires c).After-get-rows)

pub overflow_sub-from : goal.overflow_sub-from
overflow_sub-from c = let t = turn c in omega (arith, t.from, c.start.ensures)

pub overflow_sub-len : goal.overflow_sub-len
overflow_sub-len c =
    let t = turn ((goal.at.overflow_sub-len c).After-start) in
    omega (arith, t.from, t.inside, c.start.ensures, c.len.ensures.count)

pub without-requires : goal.without-requires
without-requires c =
    let t = turn ((goal.at.without-requires c).After-start) in
    omega (arith, t.from, t.inside, t.of.marks, c.start.ensures, c.len.ensures.count, c.min-here.ensures)

pub set-requires : goal.set-requires
set-requires c = part_within ((goal.at.set-requires c).After-get-rows)

pub overflow_add-row : goal.overflow_add-row
overflow_add-row c =
    omega (arith, c.min-here.ensures, c.loop-row-test.true, c.requires.inside, c.requires.fits)

pub overflow_add-segment : goal.overflow_add-segment
overflow_add-segment c =
    let few = few_segments 0 c.args.parts.now c.args.segments.now c.requires.parts in
    let there = within ((goal.at.overflow_add-segment c).After-get-rows) in
    omega (arith, few, there, c.requires.fits)

pub loop-row-smaller : goal.loop-row-smaller
loop-row-smaller c =
    let t = turn ((goal.at.loop-row-smaller c).After-start) in
    let smaller : c.args.start + c.args.count - (c.loop-row.row + c.min-here.result) < c.args.start + c.args.count - c.loop-row.row =
    omega (arith, t.from, t.inside, c.start.ensures, c.len.ensures.count, c.min-here.ensures, c.loop-row-test.true) in
    smaller

pub loop-row-preserved : goal.loop-row-preserved
loop-row-preserved c =
    let segments = c.args.segments.now in
    let row = c.loop-row.row in
    let behind = c.args.start + c.args.count in
    let rows = c.get-rows.result.now in
    let part = c.get-part.result.now in
    let from = row - c.start.result in
    let is : IsNext row behind rows part c.in_ok-part.part from c.min-here.result = record {
      begins = ap (λ n. row - n) c.start.ensures;
      many = c.min-here.ensures ∙ ap (λ n. min (n - from) (behind - row)) c.len.ensures.count;
      start = c.in_ok-part.ensures.start;
      marks = c.in_ok-part.ensures.marks;
      left = rw c.in_ok-part.ensures.left tt;
    } in
    rw c.in_ok-after-2.ensures (next_without segments c.args.parts.now c.loop-row.after c.args.start row behind c.loop-row.segment rows part c.in_ok-part.part from c.min-here.result c.requires.parts c.loop-row.invariant c.loop-row-test.true c.requires.inside c.get-rows.ensures c.get-part.ensures is)
