use Rattle.std.proofs.Common.{length}
use Rattle.fw_import.proofs.ahead.+are_same.Given as goal

-- the rest is shorter
abbrev pub decreases-are_same : goal.decreases-are_same
decreases-are_same l = length l.a.now
