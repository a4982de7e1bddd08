use Rattle.std.proofs.Common.{◌≡◌, ◌-◌}
use Rattle.fw_bytes.specs.Reading.{times}
use Rattle.fw_bytes.proofs.Loop.{with_front}
use Rattle.fw_fields.specs.Reading.{tag_at}
use Rattle.fw_fields.proofs.reading.tags_after.Given as goal

abbrev pub invariant-loop : goal.invariant-loop
invariant-loop l = with_front l.tags.items (times tag_at (l.count - l.counter) l.rest) ≡ times tag_at l.count l.bytes
