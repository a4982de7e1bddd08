use Rattle.std.proofs.Common.{length}
use Rattle.fw_persistent.specs.Branches.{branch_values}
use Rattle.fw_persistent.proofs.branches.Branch.+entry.Given as goal

abbrev pub decreases-entry : goal.decreases-entry
decreases-entry g l = length (branch_values l.self.now)
