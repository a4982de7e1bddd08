use Rattle.std.proofs.Common.{◌≡◌, take}
use Rattle.fw_coverage.specs.Tallies.{line_sums}
use Rattle.fw_coverage.proofs.line_sums.LineSums.of_lines.Given as goal

-- what the lines so far carry
abbrev pub invariant-loop-line : goal.invariant-loop-line
invariant-loop-line l = l.sums ≡ line_sums l.id (take l.line-index l.lines)
