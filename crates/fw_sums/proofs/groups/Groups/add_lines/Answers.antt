use Rattle.std.proofs.Common.{◌++◌, ◌∷◌, [], map, take}
use Rattle.fw_sums.specs.Costs.{line_cost}
use Rattle.fw_sums.specs.Sums.{Counts}
use Rattle.fw_sums.proofs.SumFacts.{one_more}
use Rattle.fw_sums.proofs.groups.Groups.add_lines.Goals as goal

pub add-requires : goal.add-requires
add-requires c = (_, c.loop-line.invariant c.requires.0 c.requires.1)

pub loop-line-preserved : goal.loop-line-preserved
loop-line-preserved c = λ costs counts.
    let brought : Counts c.add.new.self ((costs ++ map (line_cost c.args.key.now) (take c.loop-line.line-index c.args.lines.now)) ++ line_cost c.args.key.now c.line-item.result ∷ []) =
    rw (c.group.ensures, c.tags.ensures, c.billed.ensures, c.effective.ensures) at (c.in_ok-add.ensures _ (c.loop-line.invariant costs counts)) in
    rw (one_more (line_cost c.args.key.now) costs c.args.lines.now c.loop-line.line-index c.line-item.result c.loop-line-test.true c.line-item.is) at brought
