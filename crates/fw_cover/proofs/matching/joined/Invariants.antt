use Rattle.std.proofs.Common.{◌≡◌, map, take}
use Rattle.std.specs.List.{flat_map}
use Rattle.fw_cover.specs.Order.{has_lower_rate, in_order}
use Rattle.fw_cover.proofs.matching.joined.Given as goal

abbrev pub invariant-loop-list : goal.invariant-loop-list
invariant-loop-list l = l.pairs.items ≡ flat_map (in_order has_lower_rate) (map (λ list. list.items) (take l.list-index l.lists))
