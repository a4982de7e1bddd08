use Rattle.std.proofs.Common.{drop}
use Rattle.toml.specs.Data.{string}
use Rattle.fw_toml.proofs.ListFacts.{FoundItems}
use Rattle.fw_toml.proofs.lists.texts.Given as goal

abbrev pub invariant-loop-item : goal.invariant-loop-item
invariant-loop-item l = FoundItems (λ t. string t.now) l.item-items l.found.items (drop l.item-index l.item-items)
