use Rattle.std.proofs.Common.{◌≡◌, take}
use Rattle.std.specs.List.{fold}
use Rattle.fw_commands.specs.Refusals.{with_digit}
use Rattle.fw_commands.proofs.answers.number_of.Given as goal

-- the number that the digits so far write
abbrev pub invariant-loop-digit : goal.invariant-loop-digit
invariant-loop-digit l = l.number ≡ fold with_digit 0 (take l.digit-index l.digits)
