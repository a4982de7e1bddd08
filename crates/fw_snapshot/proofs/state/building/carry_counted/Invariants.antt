use Rattle.std.proofs.Common.{◌≡◌, false, All}
use Rattle.std.specs.Prelude.{slice_range}
use Rattle.fw_snapshot.specs.Building.{has_counted_id}
use Rattle.fw_snapshot.proofs.state.building.carry_counted.Given as goal

-- none of the rows so far carries an id that is counted
abbrev pub invariant-loop-place : goal.invariant-loop-place
invariant-loop-place l = All (λ row. has_counted_id l.counts row ≡ false) (slice_range l.columns l.fn.run.first l.place)
