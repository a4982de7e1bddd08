-- the places of the columns so far
use Rattle.std.proofs.Common.{◌≡◌, take}
use Rattle.csv.specs.Records.{fields_of}
use Rattle.fw_rows.specs.Keeping.{keep_places}
use Rattle.fw_rows.proofs.kept_places.keep_places.Given as goal

abbrev pub invariant-loop-keep : goal.invariant-loop-keep
invariant-loop-keep l = l.places.items ≡ keep_places (take l.keep-index l.keeps) (fields_of l.header)
