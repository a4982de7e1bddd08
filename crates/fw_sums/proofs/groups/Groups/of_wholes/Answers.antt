use Rattle.std.proofs.Common.{◌≡◌, ◌∙◌, ◌-◌, replicate, true}
use Rattle.fw_sums.specs.Hours.{all_rows, lent}
use Rattle.fw_sums.specs.Parts.{range_costs}
use Rattle.fw_sums.specs.Sums.{Counts}
use Rattle.fw_sums.proofs.WholeFacts.{divided_all}
use Rattle.fw_sums.proofs.groups.Groups.of_wholes.Goals as goal

pub add_groups-requires-clause-counts : goal.add_groups-requires-clause-counts
add_groups-requires-clause-counts g c = let divided = c.in_ok-others.ensures c.args.key.now c.requires.wholes in (divided.costs, divided.counts)

pub returns : goal.returns
returns g c =
    let key = c.args.key.now in
    let others = all_rows (lent c.in_ok-others.others.items) in
    let marks : c.as_slice-2.result.now ≡ replicate (c.args.to - c.args.from) true = c.as_slice-2.ensures.value ∙ c.in_ok-marks.ensures in
    let rest : Counts c.in_ok-rest.rest (range_costs key c.args.from c.args.to others) = rw (marks, c.as_slice.ensures.value) at c.in_ok-rest.ensures in
    divided_all key c.args.from c.args.to (all_rows (lent c.args.segments.now)) others c.add_wholes.new.self c.in_ok-rest.rest c.add_groups.new.self (c.in_ok-others.ensures key c.requires.wholes) rest c.in_ok-add_groups.ensures
