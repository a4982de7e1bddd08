use Rattle.fw_shards.specs.Added.{PassesAtEntry, all_of}
use Rattle.fw_shards.proofs.AddedFacts.{PassesIn-from_totals, rising_totals}
use Rattle.fw_shards.proofs.adding.added.Goals as goal

pub returns-in-Some-clause-fault : goal.returns-in-Some-clause-fault
returns-in-Some-clause-fault c =
    let passes : PassesAtEntry c.in_ok-totals.totals.items c.in-Some.place = rw c.as_slice.ensures.value at c.in-Some.ensures in (
      c.can_be_added.ensures.0 c.if-not-can_be_added.false,
      rw c.into_group.ensures (PassesIn-from_totals (all_of c.args.reports.now) c.in_ok-totals.totals.items c.in-Some.place c.swap_remove.result c.in_ok-totals.ensures passes c.swap_remove.ensures.value),
    )

pub returns-clause-rising : goal.returns-clause-rising
returns-clause-rising c = rw c.of_entries.ensures (rising_totals _ _ c.in_ok-totals.ensures)
