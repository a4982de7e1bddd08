use Rattle.std.proofs.Common.{◌≡◌, ◌-◌, map}
use Rattle.fw_bytes.specs.Reading.{times}
use Rattle.fw_bytes.proofs.Loop.{with_front}
use Rattle.fw_segment.specs.Heads.{head_at}
use Rattle.fw_segment.specs.HeadView.{head_view}
use Rattle.fw_segment.proofs.heads.heads_after.Given as goal

-- the heads so far, and what is still read of the rest, are what is read of all
abbrev pub invariant-loop : goal.invariant-loop
invariant-loop l = with_front (map head_view l.heads.items) (times (head_at l.form) (l.count - l.counter) l.rest) ≡ times (head_at l.form) l.count l.bytes
