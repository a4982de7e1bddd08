use Rattle.std.proofs.Common.{◌≤◌, arith, length}
use Rattle.std.proofs.lemmas.List.{take_all}
use Rattle.fw_sums.proofs.PieceFacts.{as_many, part_at, piece_more}
use Rattle.fw_sums.proofs.groups.Groups.of_parts.Goals as goal

pub loop-part-init : goal.loop-part-init
loop-part-init c = λ pieces all. c.new-all.ensures.counts

pub add_groups-requires-clause-counts : goal.add_groups-requires-clause-counts
add_groups-requires-clause-counts c = (_, c.loop-part.invariant c.requires.0 c.requires.1)

pub add_groups-requires-clause-others : goal.add_groups-requires-clause-others
add_groups-requires-clause-others c = (_, rw c.in-Ok.is at (part_at c.requires.0 c.args.parts.now c.loop-part.part-index c.part-item.result c.requires.1 c.loop-part-test.true c.part-item.is))

pub loop-part-preserved : goal.loop-part-preserved
loop-part-preserved c = λ pieces all.
    let here = rw c.in-Ok.is at (part_at pieces c.args.parts.now c.loop-part.part-index c.part-item.result all c.loop-part-test.true c.part-item.is) in
    let below = as_many pieces c.args.parts.now all in
    rw (piece_more pieces c.loop-part.part-index (rw below c.loop-part-test.true)) (c.in_ok-add_groups.ensures _ _ (c.loop-part.invariant pieces all) here)

pub returns : goal.returns
returns c = λ pieces all.
    let long = as_many pieces c.args.parts.now all in
    let end : length pieces ≤ c.loop-part.part-index = (let t = c.loop-part-test.false in omega (arith, t, long)) in
    rw (take_all c.loop-part.part-index pieces end) at (c.loop-part.invariant pieces all)
