use Rattle.std.proofs.Common.{◌≡◌, ◌-◌}
use Rattle.fw_bytes.specs.Reading.{times}
use Rattle.fw_bytes.proofs.Loop.{with_front}
use Rattle.fw_fields.specs.Reading.{nanos_at}
use Rattle.fw_column_bytes.proofs.fields.amounts_to_fault.Given as goal

abbrev pub invariant-loop : goal.invariant-loop
invariant-loop l = with_front l.column.items (times nanos_at (l.count - l.counter) l.rest) ≡ times nanos_at l.count l.bytes
