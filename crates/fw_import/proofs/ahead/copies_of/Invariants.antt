use Rattle.std.proofs.Common.{◌≡◌, take}
use Rattle.fw_import.proofs.ahead.copies_of.Given as goal

-- there are copies of those so far
abbrev pub invariant-loop-keep : goal.invariant-loop-keep
invariant-loop-keep l = l.copies.items ≡ take l.keep-index l.keeps
