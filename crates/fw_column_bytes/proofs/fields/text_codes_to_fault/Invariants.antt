use Rattle.std.proofs.Common.{◌≡◌, ◌-◌}
use Rattle.std.specs.Prelude.{map, string_bytes}
use Rattle.fw_bytes.specs.Reading.{times}
use Rattle.fw_bytes.proofs.Loop.{with_front}
use Rattle.fw_column_bytes.specs.Reading.{text_code_at}
use Rattle.fw_column_bytes.proofs.fields.text_codes_to_fault.Given as goal

abbrev pub invariant-loop : goal.invariant-loop
invariant-loop l = with_front l.column.items (times (text_code_at (map string_bytes l.names)) (l.count - l.counter) l.rest) ≡ times (text_code_at (map string_bytes l.names)) l.count l.bytes
