-- how often it stands in the part so far
use Rattle.std.proofs.Common.{◌≡◌, ◌≤◌, take}
use Rattle.std.specs.List.{count_by}
use Rattle.std.specs.Str.{bytes_eq}
use Rattle.csv.specs.Records.{fields_of}
use Rattle.fw_check.proofs.columns.times_in.Given as goal

abbrev pub invariant-loop-place : goal.invariant-loop-place
invariant-loop-place l = record {
  counted : l.times ≡ count_by (bytes_eq l.name) (take l.place (fields_of l.header));
  few : l.times ≤ l.place;
}
