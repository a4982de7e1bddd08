use Rattle.std.proofs.Common.{◌≡◌, false, take, All}
use Rattle.fw_snapshot.specs.History.{committed_of}
use Rattle.fw_snapshot.specs.Judging.{has_registered_id}
use Rattle.fw_snapshot.proofs.judging.carry_registered.Given as goal

-- none of the rows so far carries the id of a commitment
abbrev pub invariant-loop-place : goal.invariant-loop-place
invariant-loop-place l = All (λ row. has_registered_id (committed_of l.state.entries) row ≡ false) (take l.place l.rows)
