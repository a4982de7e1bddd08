use Rattle.std.proofs.Common.{◌≡◌, replicate}
use Rattle.fw_select.specs.declared.known.Found.TheVariants as finding
use Rattle.fw_select.proofs.known.nothing_found.Given as goal

-- of so many so far
abbrev pub invariant-loop-number : goal.invariant-loop-number
invariant-loop-number l = l.list.items ≡ replicate l._number finding.Unknown
