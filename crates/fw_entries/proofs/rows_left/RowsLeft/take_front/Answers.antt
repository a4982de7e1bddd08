use Rattle.std.proofs.Common.{rules, ◌≡◌, ◌∙◌, ◌≤◌, ◌<◌, ◌+◌, ◌++◌, ◌∷◌, [], length, length-append, ap, arith}
use Rattle.fw_entries.proofs.Left.{all_taken, fewer_rows, fewer_segments, none_left, one_more, one_taken, room_left, segment_taken}
use Rattle.fw_entries.proofs.rows_left.RowsLeft.take_front.Goals as goal

pub returns-then-self-len : goal.returns-then-self-len
returns-then-self-len c =
    let left = c.loop-front.self in
    let past : length left.segments.now ≤ left.segment = omega (arith, c.len-in-loop-front.ensures, c.if-self-len.true) in
    all_taken _ _ _ _ c.loop-front.invariant.0 (none_left left.taken left.segment left.segments.now past) c.loop-front.invariant.1

pub loop-front-smaller-then-self-len-2 : goal.loop-front-smaller-then-self-len-2
loop-front-smaller-then-self-len-2 c =
    let left = c.loop-front.self in
    fewer_rows _ _ c.lent.result _ (one_taken left.taken left.segment left.segments.now _ _ c.get-columns.ensures c.lent.ensures)

pub loop-front-preserved-then-self-len-2 : goal.loop-front-preserved-then-self-len-2
loop-front-preserved-then-self-len-2 c =
    let left = c.loop-front.self in
    let front = c.loop-front.front in
    let row = c.lent.result in
    let added : c.push_lent.new.self ≡ front ++ row ∷ [] = c.in_ok-push_lent.ensures.added in
    let longer : length c.push_lent.new.self ≡ length front + 1 = ap length added ∙ length-append front (row ∷ []) in
    let few : length c.push_lent.new.self ≤ c.args.count = omega (arith, longer, c.loop-front-test.true, c.len.ensures.count) in
    let taken = one_taken left.taken left.segment left.segments.now _ row c.get-columns.ensures c.lent.ensures in
    (rw added (one_more _ front _ _ row c.loop-front.invariant.0 taken), few)

pub push_lent-requires : goal.push_lent-requires
push_lent-requires c =
    let left = c.loop-front.self in
    let taken = one_taken left.taken left.segment left.segments.now _ c.lent.result c.get-columns.ensures c.lent.ensures in
    let fewer : length c.loop-front.front < c.args.count = omega (arith, c.loop-front-test.true, c.len.ensures.count) in
    room_left _ c.loop-front.front _ _ c.lent.result c.args.count 65536 c.loop-front.invariant.0 taken fewer c.requires

pub loop-front-smaller : goal.loop-front-smaller
loop-front-smaller c =
    let left = c.loop-front.self in
    let within : left.segment < length left.segments.now = omega (arith, c.len-in-loop-front.ensures, c.if-self-len.false) in
    let past : length c.get-columns.result.now ≤ left.taken = omega (arith, c.len-in-loop-front-2.ensures.count, c.if-self-len-2.false) in
    fewer_segments _ _ left.segment _ (segment_taken left.taken left.segment left.segments.now _ c.get-columns.ensures past) within

pub loop-front-preserved : goal.loop-front-preserved
loop-front-preserved c =
    let left = c.loop-front.self in
    let past : length c.get-columns.result.now ≤ left.taken = omega (arith, c.len-in-loop-front-2.ensures.count, c.if-self-len-2.false) in (
      c.loop-front.invariant.0 ∙ ap (λ rows. c.loop-front.front ++ rows) (segment_taken left.taken left.segment left.segments.now _ c.get-columns.ensures past),
      c.loop-front.invariant.1,
    )
