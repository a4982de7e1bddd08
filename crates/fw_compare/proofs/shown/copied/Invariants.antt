use Rattle.std.proofs.Common.{◌≡◌, take}
use Rattle.fw_compare.proofs.shown.copied.Given as goal

abbrev pub invariant-loop-line : goal.invariant-loop-line
invariant-loop-line l = l.same.items ≡ take l.line-index l.lines
