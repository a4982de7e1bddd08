use Rattle.std.proofs.Common.{◌≡◌, ◌+◌, false, get_or, map}
use Rattle.std.specs.List.{range_with_len}
use Rattle.fw_sums.specs.ReportCache.{is_open}
use Rattle.fw_sums.proofs.cache.HourSums.open_hours.Given as goal

-- the marks of the hours so far
abbrev pub invariant-loop-place : goal.invariant-loop-place
invariant-loop-place l = l.marks.items ≡ map (λ k. is_open l.self (get_or l.touched k false) (l.from + k)) (range_with_len 0 l.place)
