-- The columns so far have been looked for.
use Rattle.csv.specs.Records.{fields_of}
use Rattle.fw_rows.proofs.CellFacts.{Placed}
use Rattle.fw_rows.proofs.header.Places.of_columns.Given as goal

abbrev pub invariant-loop-index : goal.invariant-loop-index
invariant-loop-index l = Placed (fields_of l.header) l.places l.index
