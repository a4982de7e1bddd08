-- the texts so far are those of the record, and UTF-8
use Rattle.std.proofs.Common.{◌≡◌, map, take, string_bytes}
use Rattle.std.specs.Prelude.{All, IsUtf8}
use Rattle.csv.specs.Records.{fields_of}
use Rattle.fw_rows.specs.Keeping.{texts_at}
use Rattle.fw_rows.proofs.kept_places.texts_at.Given as goal

abbrev pub invariant-loop-place : goal.invariant-loop-place
invariant-loop-place l = record {
  same : map string_bytes l.texts.items ≡ take l.place-index (texts_at (fields_of l.fields) l.places);
  utf8 : All IsUtf8 (take l.place-index (texts_at (fields_of l.fields) l.places));
}
