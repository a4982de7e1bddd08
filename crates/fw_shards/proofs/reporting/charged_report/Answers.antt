use Rattle.std.proofs.Common.{◌≡◌, ◌∙◌, map}
use Rattle.fw_shards.specs.Entries.{entry_of}
use Rattle.fw_shards.proofs.EntryFacts.{entries_are}
use Rattle.fw_shards.proofs.reporting.charged_report.Goals as goal

pub returns : goal.returns
returns c =
    let made : c.in_ok-entries.entries.items ≡ map (entry_of c.args.sum.now) c.in_ok-costs.costs.items = rw (c.as_slice.ensures.value, c.entries.ensures) at c.in_ok-entries.ensures in
    record {
      charged = c.in_ok-costs.costs.items;
      are_charged = c.in_ok-costs.ensures;
      entries_are = c.of_entries.ensures ∙ made ∙ entries_are c.args.sum.now c.in_ok-costs.costs.items c.requires.rising;
    }
