use Rattle.std.proofs.Common.{map, take}
use Rattle.std.specs.Prelude.{vec_items}
use Rattle.fw_columns.proofs.MetFacts.{AreMet}
use Rattle.fw_columns.proofs.by_sku.Met.add_codes.Given as goal

-- the codes of the places so far are listed and noted, each with its places
abbrev pub invariant-loop-place : goal.invariant-loop-place
invariant-loop-place l = AreMet l.skus l.initial.codes.items (take l.place-index l.places) l.codes.items l.self.last.items (map vec_items l.self.lists.items)
