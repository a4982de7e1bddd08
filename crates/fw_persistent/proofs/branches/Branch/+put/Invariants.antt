use Rattle.std.proofs.Common.{length}
use Rattle.fw_persistent.specs.Branches.{branch_values}
use Rattle.fw_persistent.proofs.branches.Branch.+put.Given as goal

abbrev pub decreases-put : goal.decreases-put
decreases-put g l = length (branch_values l.self.now)
