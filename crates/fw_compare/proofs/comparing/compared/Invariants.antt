use Rattle.std.proofs.Common.{◌≡◌, ◌+◌, ◌++◌, length, map}
use Rattle.fw_compare.specs.Comparison.{compared, line_value}
use Rattle.fw_compare.proofs.comparing.compared.Given as goal

-- the lines so far, and those of what is left
abbrev pub invariant-loop-first : goal.invariant-loop-first
invariant-loop-first l = map line_value l.lines.items ++ compared l.old l.new ≡ compared l.before l.after

-- each turn takes a group
abbrev pub decreases-loop-first : goal.decreases-loop-first
decreases-loop-first l = length l.old + length l.new
