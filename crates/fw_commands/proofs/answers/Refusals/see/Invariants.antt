use Rattle.std.proofs.Common.{◌≡◌, take}
use Rattle.fw_commands.specs.Refusals.{after}
use Rattle.fw_commands.proofs.answers.Refusals.see.Given as goal

-- the bytes so far were seen
abbrev pub invariant-loop-byte : goal.invariant-loop-byte
invariant-loop-byte l = l.self ≡ after l.fn.self (take l.byte-index l.written)
