use Rattle.std.proofs.Common.{refl}
use Rattle.fw_rows.proofs.CellFacts.{ascii_is_text}
use Rattle.fw_rows.proofs.keeping.cells_of.Goals as goal

-- a record of ASCII is one of text
pub of_text-requires : goal.of_text-requires
of_text-requires c = ascii_is_text 0 _ _ (rw c.as_slice.ensures at c.if-is_ascii.ensures refl)
