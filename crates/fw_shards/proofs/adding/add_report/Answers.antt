use Rattle.std.proofs.Common.{◌++◌, ◌<◌, length, subst, take, arith}
use Rattle.std.proofs.lemmas.List.{take_all}
use Rattle.fw_sums.specs.Totals.{AreTotals}
use Rattle.fw_shards.proofs.AddedFacts.{can_more, one_behind}
use Rattle.fw_shards.proofs.adding.add_report.Goals as goal

pub add_entry-requires : goal.add_entry-requires
add_entry-requires c =
    let below : c.loop-entry.entry-index < length c.args.entries.now = omega arith in (
      c.requires.0 ++ take c.loop-entry.entry-index c.args.entries.now,
      c.loop-entry.invariant c.requires.0 c.requires.1,
      can_more c.requires.0 c.args.entries.now c.loop-entry.entry-index c.entry-item.result below c.entry-item.is c.requires.2,
    )

pub loop-entry-preserved : goal.loop-entry-preserved
loop-entry-preserved c = λ costs are.
    let below : c.loop-entry.entry-index < length c.args.entries.now = omega arith in
    subst (λ l. AreTotals l c.add_entry.new.totals.items) (one_behind costs c.args.entries.now c.loop-entry.entry-index c.entry-item.result below c.entry-item.is)
    (c.in_ok-add_entry.ensures (costs ++ take c.loop-entry.entry-index c.args.entries.now) (c.loop-entry.invariant costs are))

pub returns : goal.returns
returns c = λ costs are.
    subst (λ l. AreTotals (costs ++ l) c.loop-entry.totals.items) (take_all c.loop-entry.entry-index c.args.entries.now (omega arith)) (c.loop-entry.invariant costs are)
