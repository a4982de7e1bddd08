use Rattle.std.proofs.Common.{◌≡◌, ◌-◌, length}
use Rattle.fw_bytes.specs.Reading.{times}
use Rattle.fw_bytes.proofs.Loop.{with_front}
use Rattle.fw_row_bytes.specs.Reading.{row_at}
use Rattle.fw_row_bytes.proofs.rows.rows_after.Given as goal

-- the rows so far, and what is still read of the rest, are what is read of all
abbrev pub invariant-loop : goal.invariant-loop
invariant-loop l = (with_front l.rows (times row_at (l.count - l.counter) l.rest) ≡ times row_at l.count l.bytes) × (length l.rows ≡ l.counter)
