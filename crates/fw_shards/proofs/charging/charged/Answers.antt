use Rattle.fw_shards.proofs.AddedFacts.{rising_report}
use Rattle.fw_shards.proofs.charging.charged.Goals as goal

pub charge-requires-clause-rising : goal.charge-requires-clause-rising
charge-requires-clause-rising c = rw (c.as_slice.ensures.value, c.in_ok-direct.ensures, c.entries.ensures) (rising_report c.args.report.now c.requires.rising)
