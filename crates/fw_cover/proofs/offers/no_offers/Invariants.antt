use Rattle.std.proofs.Common.{◌≡◌, [], map, vec_len}
use Rattle.std.specs.List.{range_with_len}
use Rattle.fw_cover.specs.Offers.{of_list, table_view}
use Rattle.fw_cover.proofs.offers.no_offers.Given as goal

-- so many empty lists so far
abbrev pub invariant-loop-list : goal.invariant-loop-list
invariant-loop-list l = record { empty : table_view l.table.items ≡ map (of_list l.lists []) (range_with_len 0 l._list); many : vec_len l.table ≡ l._list }
