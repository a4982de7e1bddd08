use Rattle.std.proofs.Common.{◌≤◌, arith, length, subst}
use Rattle.fw_posted.specs.Parts.{all_marks}
use Rattle.fw_posted.specs.Posted.{PostedValue}
use Rattle.fw_posted.specs.Rows.{segment_rows}
use Rattle.fw_posted.proofs.MarkFacts.{selected_few}
use Rattle.fw_posted.proofs.posted.PostedRows.counting_len.Goals as goal

pub returns-clause-few : goal.returns-clause-few
returns-clause-few c =
    let few = selected_few (all_marks c.self.inside.parts) (segment_rows c.self.inside.segments) in
    let count = c.self.invariant.counting in
    subst (λ (p : PostedValue). c.self.inside.counting ≤ length (segment_rows p.segments)) c.self.view_is (omega (arith, few, count))
