use Rattle.std.proofs.Common.{◌≡◌, ◌++◌, drop, option_map}
use Rattle.serde_json.specs.View.{items_view}
use Rattle.fw_dialect.specs.Tags.{pairs_in}
use Rattle.fw_dialect.proofs.pairs.pairs_in.Given as goal

-- the tags of all items are those so far, and those of what is left
abbrev pub invariant-loop-item : goal.invariant-loop-item
invariant-loop-item l = pairs_in (items_view l.items) ≡ option_map (λ more. l.tags.items ++ more) (pairs_in (items_view (drop l.item-index l.items)))
