use Rattle.std.proofs.Common.{◌≡◌, take}
use Rattle.fw_check.proofs.kept_fields.copies.Given as goal

-- copies of those so far
abbrev pub invariant-loop-keep : goal.invariant-loop-keep
invariant-loop-keep l = l.copies.items ≡ take l.keep-index l.keeps
