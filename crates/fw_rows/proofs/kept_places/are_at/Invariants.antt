-- the texts so far are those of the record
use Rattle.std.proofs.Common.{◌≡◌, map, take, string_bytes}
use Rattle.csv.specs.Records.{fields_of}
use Rattle.fw_rows.specs.Keeping.{texts_at}
use Rattle.fw_rows.proofs.kept_places.are_at.Given as goal

abbrev pub invariant-loop-index : goal.invariant-loop-index
invariant-loop-index l = take l.index (map string_bytes l.values) ≡ take l.index (texts_at (fields_of l.fields) l.places)
