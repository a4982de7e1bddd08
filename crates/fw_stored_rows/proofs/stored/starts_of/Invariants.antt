use Rattle.std.proofs.Common.{◌≡◌}
use Rattle.fw_posted.specs.Rows.{rows_before_segment}
use Rattle.fw_stored_rows.proofs.StartFacts.{AreFirst}
use Rattle.fw_stored_rows.proofs.stored.starts_of.Given as goal

-- how many rows stand before each segment so far, and before the next one
abbrev pub invariant-loop-place : goal.invariant-loop-place
invariant-loop-place l = record {
  first : AreFirst l.starts.items l.segments l.place;
  rows : l.rows ≡ rows_before_segment l.segments l.place;
}
