use Rattle.std.proofs.Common.{◌≡◌, ◌≤◌, take}
use Rattle.std.specs.List.{count_by}
use Rattle.csv.specs.Records.{fields_of}
use Rattle.fw_rows.specs.Columns.{is_name}
use Rattle.fw_rows.proofs.header.times.Given as goal

abbrev pub invariant-loop-place : goal.invariant-loop-place
invariant-loop-place l = record {
  counted : l.times ≡ count_by (is_name l.column) (take l.place (fields_of l.header));
  few : l.times ≤ l.place;
}
