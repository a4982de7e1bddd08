use Rattle.std.proofs.Common.{◌≡◌, ◌<◌, ℕ, [], get_or, false}
use Rattle.std.specs.Str.{bytes_eq}
use Rattle.csv.specs.Records.{fields_of}
use Rattle.fw_rows.proofs.kept_places.name_place.Given as goal

abbrev pub invariant-loop-place : goal.invariant-loop-place
invariant-loop-place l = (k : ℕ) → k < l.place → bytes_eq l.name (get_or (fields_of l.header) k []) ≡ false
