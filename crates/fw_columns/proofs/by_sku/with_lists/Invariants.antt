use Rattle.std.proofs.Common.{◌≡◌, ◌++◌, map, take}
use Rattle.std.specs.Prelude.{vec_items}
use Rattle.fw_columns.proofs.by_sku.with_lists.Given as goal

-- the lists that were there and the first of the others
abbrev pub invariant-loop-list : goal.invariant-loop-list
invariant-loop-list l = l.all ≡ l.initial.all ++ take l.list-index (map vec_items l.lists)
