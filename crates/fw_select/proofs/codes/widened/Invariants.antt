use Rattle.std.proofs.Common.{◌≡◌, take}
use Rattle.fw_select.proofs.codes.widened.Given as goal

-- the codes so far are wider
abbrev pub invariant-loop-code : goal.invariant-loop-code
invariant-loop-code l = l.wide.items ≡ take l.code-index l.codes
