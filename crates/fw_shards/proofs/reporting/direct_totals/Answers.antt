use Rattle.std.proofs.Common.{◌∙◌}
use Rattle.fw_shards.proofs.EntryFacts.{totals_same}
use Rattle.fw_shards.proofs.reporting.direct_totals.Goals as goal

pub returns : goal.returns
returns c = c.of_entries.ensures ∙ c.in_ok-direct_entries.ensures ∙ totals_same c.args.totals.items
