-- The texts so far are those at the columns' places.
use Rattle.csv.specs.Records.{fields_of}
use Rattle.fw_rows.proofs.CellFacts.{Taken}
use Rattle.fw_rows.proofs.cells.Cells.of_text.Given as goal

abbrev pub invariant-loop-index : goal.invariant-loop-index
invariant-loop-index l = Taken (fields_of l.fields) l.places.places l.texts l.index
