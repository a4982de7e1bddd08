use Rattle.std.proofs.Common.{◌≡◌, ◌<◌, ℕ, [], get_or, false}
use Rattle.csv.specs.Records.{fields_of}
use Rattle.fw_rows.specs.Columns.{is_name}
use Rattle.fw_rows.proofs.column.Column.place_in.Given as goal

abbrev pub invariant-loop-place : goal.invariant-loop-place
invariant-loop-place l = (k : ℕ) → k < l.place → is_name l.self (get_or (fields_of l.header) k []) ≡ false
