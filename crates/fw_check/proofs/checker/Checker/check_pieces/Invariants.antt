use Rattle.std.proofs.Common.{◌≤◌}
use Rattle.fw_check.proofs.checker.Checker.check_pieces.Given as goal

-- what was counted stays
abbrev pub invariant-loop : goal.invariant-loop
invariant-loop l = l.fn.self.faults ≤ l.self.faults
