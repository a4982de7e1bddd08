use Rattle.std.proofs.Common.{length}
use Rattle.fw_script.proofs.WholeLaws.{HasRead}
use Rattle.fw_script.proofs.whole.whole_len.Given as goal

-- what was read is made of whole commands, and the rest is left
abbrev pub invariant-loop-command : goal.invariant-loop-command
invariant-loop-command l = HasRead l.text l.whole l.script

abbrev pub decreases-loop-command : goal.decreases-loop-command
decreases-loop-command l = length l.script
