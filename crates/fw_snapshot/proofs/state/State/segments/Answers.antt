use Rattle.std.proofs.Common.{◌≡◌, ◌∙◌, ◌≤◌, ap, length, arith}
use Rattle.fw_posted.specs.Rows.{segment_rows}
use Rattle.fw_snapshot.specs.History.{rows_posted}
use Rattle.fw_snapshot.proofs.Following.{kept_rows, kept_few}
use Rattle.fw_snapshot.proofs.state.State.segments.Goals as goal

pub returns-clause-posted : goal.returns-clause-posted
returns-clause-posted c = ap segment_rows c.segments.ensures.segments ∙ kept_rows c.self.inside c.self.invariant ∙ ap (λ h. rows_posted h.entries) c.self.view_is

pub returns-clause-few : goal.returns-clause-few
returns-clause-few c =
    let few = kept_few c.self.inside c.self.invariant in
    let same = ap length c.segments.ensures.segments in
    omega (arith, few, same, c.segments.ensures.few)
