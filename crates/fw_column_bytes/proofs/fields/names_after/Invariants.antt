use Rattle.std.proofs.Common.{◌≡◌, ◌-◌}
use Rattle.std.specs.Prelude.{map, string_bytes}
use Rattle.fw_bytes.specs.Reading.{times}
use Rattle.fw_bytes.proofs.Loop.{with_front}
use Rattle.fw_fields.specs.Reading.{tag_text_at}
use Rattle.fw_column_bytes.proofs.fields.names_after.Given as goal

abbrev pub invariant-loop : goal.invariant-loop
invariant-loop l = with_front (map string_bytes l.column.items) (times tag_text_at (l.count - l.counter) l.rest) ≡ times tag_text_at l.count l.bytes
