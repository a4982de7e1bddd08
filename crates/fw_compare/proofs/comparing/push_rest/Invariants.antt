use Rattle.std.proofs.Common.{◌≡◌, ◌++◌, map, take}
use Rattle.fw_compare.specs.Comparison.{in_second, line_value}
use Rattle.fw_compare.proofs.comparing.push_rest.Given as goal

abbrev pub invariant-loop-group : goal.invariant-loop-group
invariant-loop-group l = map line_value l.lines.items ≡ map line_value l.fn.lines.items ++ map in_second (take l.group-index l.groups)
