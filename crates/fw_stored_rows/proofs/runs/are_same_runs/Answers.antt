use Rattle.fw_stored_rows.proofs.RowFacts.{one_more}
use Rattle.fw_stored_rows.proofs.runs.are_same_runs.Goals as goal

pub loop-place-preserved : goal.loop-place-preserved
loop-place-preserved c = record {
  same =
      one_more c.args.one.now c.args.other.now c.args.first c.args.from c.loop-place.place
      (c.are_same_at.ensures.same.0 c.if-not-are_same_at.false) c.loop-place.invariant.same;
  known = c.are_same_at.ensures.known;
}
