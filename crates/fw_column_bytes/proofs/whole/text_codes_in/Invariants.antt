use Rattle.std.specs.Prelude.{map, string_bytes}
use Rattle.fw_column_bytes.specs.Reading.{text_code_at}
use Rattle.fw_column_bytes.proofs.WholeFacts.{AreRight}
use Rattle.fw_column_bytes.proofs.whole.text_codes_in.Given as goal

abbrev pub invariant-loop-place : goal.invariant-loop-place
invariant-loop-place l = AreRight (text_code_at (map string_bytes l.names)) 4 l.column.items l.is_right l.place l.count l.bytes
