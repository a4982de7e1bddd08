use Rattle.std.proofs.Common.{◌≡◌, ◌-◌}
use Rattle.fw_bytes.specs.Reading.{times}
use Rattle.fw_bytes.proofs.Loop.{with_front}
use Rattle.fw_entry_bytes.specs.Reading.{entry_at}
use Rattle.fw_segment.proofs.groups.entries_after.Given as goal

-- the entries so far, and what is still read of the rest, are what is read of all
abbrev pub invariant-loop : goal.invariant-loop
invariant-loop l = with_front l.entries.items (times (entry_at l.form) (l.count - l.counter) l.rest) ≡ times (entry_at l.form) l.count l.bytes
