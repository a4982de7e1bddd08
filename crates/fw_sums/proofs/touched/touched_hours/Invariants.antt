use Rattle.std.proofs.Common.{false, replicate, take}
use Rattle.fw_sums.specs.Hours.{AddsMarks, is_touched}
use Rattle.fw_sums.proofs.touched.touched_hours.Given as goal

-- the hours of the commitments so far
abbrev pub invariant-loop-commitment : goal.invariant-loop-commitment
invariant-loop-commitment l = AddsMarks (is_touched (take l.commitment-index l.commitments)) l.from (replicate l.hours false) l.marks.items
