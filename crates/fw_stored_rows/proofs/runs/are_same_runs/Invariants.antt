use Rattle.std.proofs.Common.{◌≡◌, take, drop}
use Rattle.fw_stored_rows.specs.Runs.{AreKnown}
use Rattle.fw_stored_rows.proofs.runs.are_same_runs.Given as goal

-- the rows so far are the same
abbrev pub invariant-loop-place : goal.invariant-loop-place
invariant-loop-place l = record {
  same : take l.place (drop l.first l.one) ≡ take l.place (drop l.from l.other);
  known : AreKnown l.known.items l.one l.other;
}
