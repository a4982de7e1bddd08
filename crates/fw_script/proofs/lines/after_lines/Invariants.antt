use Rattle.fw_script.specs.Lines.{FollowsLines}
use Rattle.fw_script.proofs.lines.after_lines.Given as goal

abbrev pub invariant-loop : goal.invariant-loop
invariant-loop l = FollowsLines l.counter l.text l.rest
