use Rattle.std.proofs.Common.{◌≡◌, map, take}
use Rattle.fw_compare.specs.Comparison.{afters, befores, line_value}
use Rattle.fw_compare.specs.Costs.{sums_of}
use Rattle.fw_compare.proofs.shown.total_line.Given as goal

-- the sums so far are those of the first lines
abbrev pub invariant-loop-line : goal.invariant-loop-line
invariant-loop-line l =
    (l.before ≡ sums_of (befores (map line_value (take l.line-index l.lines))))
    × (l.after ≡ sums_of (afters (map line_value (take l.line-index l.lines))))
