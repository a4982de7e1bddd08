use Rattle.fw_snapshot.proofs.EntryFacts.{counts_first}
use Rattle.fw_snapshot.proofs.parts.carried_without_rows.Goals as goal

pub returns : goal.returns
returns c = counts_first c.args.carried.now c.in_ok-after.after c.in_ok-after.ensures
