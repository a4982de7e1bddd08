use Rattle.std.proofs.Common.{◌≡◌, ◌++◌, map, take}
use Rattle.std.specs.Prelude.{vec_items}
use Rattle.fw_row_table.proofs.lists.pack.Given as goal

-- the packed lists and the first of the others
abbrev pub invariant-loop-list : goal.invariant-loop-list
invariant-loop-list l = l.all ≡ l.packed ++ take l.list-index (map vec_items l.lists)
