use Rattle.std.proofs.Common.{◌≡◌, ◌∙◌, ◌≤◌, ap, length, map, arith}
use Rattle.std.proofs.lemmas.Result.{IfOk-weaker}
use Rattle.fw_posted.specs.Rows.{segment_rows}
use Rattle.fw_snapshot.specs.History.{rows_of}
use Rattle.fw_snapshot.proofs.Following.{kept_counting, kept_few}
use Rattle.fw_snapshot.proofs.state.State.counting_segments.Goals as goal

pub returns-clause-rows : goal.returns-clause-rows
returns-clause-rows c =
    IfOk-weaker c.counting.result _ _ (λ found is. is ∙ kept_counting c.self.inside c.self.invariant ∙ ap (λ h. rows_of h.entries) c.self.view_is) c.counting.ensures.rows

pub returns-clause-few : goal.returns-clause-few
returns-clause-few c =
    let few = kept_few c.self.inside c.self.invariant in
    let filled = c.segments-stored.ensures.few in
    IfOk-weaker c.counting.result _ _ (λ found is. omega (arith, few, filled, is)) c.counting.ensures.few
