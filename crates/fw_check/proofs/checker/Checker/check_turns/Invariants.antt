use Rattle.std.proofs.Common.{◌≤◌}
use Rattle.fw_check.proofs.checker.Checker.check_turns.Given as goal

-- what was counted stays
abbrev pub invariant-loop-turn : goal.invariant-loop-turn
invariant-loop-turn l = l.fn.self.faults ≤ l.self.faults
