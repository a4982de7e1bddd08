use Rattle.std.proofs.Common.{◌≡◌, ◌∙◌, ◌-◌, ◌+◌, ◌/◌, ◌<◌, ◌≤◌, ℕ, ap, arith, length}
use Rattle.std.proofs.lemmas.List.{take_all}
use Rattle.fw_posted.specs.Rows.{rows_before_segment}
use Rattle.fw_posted.proofs.PartFacts.{apart, count_all, parts_count, placed, segment_within}
use Rattle.fw_posted.proofs.finding.segment_of.Goals as goal
use Rattle.fw_posted.proofs.finding.segment_of.Goals.{then-row-start, else-row-start+else-row-start-2}

pub even_place-place-requires : goal.even_place-place-requires
even_place-place-requires c =
    let count = parts_count 0 c.args.parts.now c.args.segments.now c.requires.parts in
    let some = segment_within c.args.segments.now 0 (omega (arith, c.requires.inside)) in
    omega (arith, count, some)

pub loop-part-init : goal.loop-part-init
loop-part-init c =
    let count = parts_count 0 c.args.parts.now c.args.segments.now c.requires.parts in
    let all = count_all c.args.segments.now c.len-behind.result (omega (arith, c.len-behind.ensures)) in
    record {
      from = omega arith;
      until = omega (arith, all, c.requires.inside);
      begun = omega arith;
      order = omega (arith, count, c.len-behind.ensures, c.even_place-place.ensures);
      within = omega (arith, c.len-behind.ensures);
    }

pub get-part-requires : goal.get-part-requires
get-part-requires c =
    let count = parts_count 0 c.args.parts.now c.args.segments.now c.requires.parts in
    omega (arith, count, c.loop-part.invariant.order, c.loop-part.invariant.within)

pub returns-then-row-start-2-clause-from : goal.returns-then-row-start-2-clause-from
returns-then-row-start-2-clause-from c =
    let at = placed c.args.parts.now c.args.segments.now c.loop-part.place c.get-part.result.now c.requires.parts c.get-part.ensures in
    omega (arith, at.begins, c.start-start.ensures, c.if-row-start.false)

pub returns-then-row-start-2-clause-until : goal.returns-then-row-start-2-clause-until
returns-then-row-start-2-clause-until c =
    let at = placed c.args.parts.now c.args.segments.now c.loop-part.place c.get-part.result.now c.requires.parts c.get-part.ensures in
    omega (arith, at.begins, at.ends, c.start-start.ensures, c.len.ensures, c.if-row-start.false, c.if-row-start-2.true)

pub loop-part-preserved : goal.loop-part-preserved
loop-part-preserved c =
    let segments = c.args.segments.now in
    let place = c.loop-part.place in
    let kept = c.loop-part.invariant in
    let at = placed c.args.parts.now segments place c.get-part.result.now c.requires.parts c.get-part.ensures in
    elim c.if-row-start.branch [
      | then-row-start w ↦
          let before : c.args.row < rows_before_segment segments place = omega (arith, at.begins, c.start-start.ensures, w.if-row-start.true) in
          let less = apart segments c.loop-part.first place c.args.row kept.from before kept.begun in
          rw (w.first-is, w.behind-is) (record {
            from = kept.from;
            until = before;
            begun = omega arith;
            order = omega (arith, less);
            within = omega (arith, kept.order, kept.within);
          })
      | else-row-start+else-row-start-2 w ↦
          let past : rows_before_segment segments (place + 1) ≤ c.args.row = omega (arith, at.begins, at.ends, c.start-start.ensures, w.len.ensures, w.if-row-start.false, w.if-row-start-2.false) in
          let less = apart segments (place + 1) c.loop-part.behind c.args.row past kept.until (omega (arith, kept.order)) in
          rw (w.first-is, w.behind-is) (record {
            from = past;
            until = kept.until;
            begun = omega arith;
            order = omega (arith, less);
            within = kept.within;
          })
    ]

pub loop-part-smaller : goal.loop-part-smaller
loop-part-smaller c =
    let segments = c.args.segments.now in
    let place = c.loop-part.place in
    let kept = c.loop-part.invariant in
    elim c.if-row-start.branch [
      | then-row-start w ↦ rw (w.first-is, w.behind-is) (omega (arith, kept.begun, kept.order))
      | else-row-start+else-row-start-2 w ↦ rw (w.first-is, w.behind-is) (omega (arith, kept.begun, kept.order))
    ]
