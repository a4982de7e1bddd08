use Rattle.std.proofs.Common.{◌≡◌, ◌-◌}
use Rattle.fw_bytes.specs.Reading.{times}
use Rattle.fw_bytes.proofs.Loop.{with_front}
use Rattle.fw_column_bytes.specs.Reading.{byte_at}
use Rattle.fw_column_bytes.proofs.fields.bytes_to_fault.Given as goal

abbrev pub invariant-loop : goal.invariant-loop
invariant-loop l = with_front l.column.items (times (byte_at l.least l.most) (l.count - l.counter) l.rest) ≡ times (byte_at l.least l.most) l.count l.bytes
