use Rattle.std.proofs.Common.{drop}
use Rattle.toml.specs.Data.{table}
use Rattle.toml.specs.View.{table_view}
use Rattle.fw_toml.proofs.ListFacts.{FoundItems}
use Rattle.fw_toml.proofs.lists.tables.Given as goal

abbrev pub invariant-loop-item : goal.invariant-loop-item
invariant-loop-item l = FoundItems (λ t. table (table_view t.now)) l.item-items l.found.items (drop l.item-index l.item-items)
