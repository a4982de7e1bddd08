use Rattle.std.proofs.Common.{◌≡◌, ◌≤◌, length, subst}
use Rattle.fw_posted.specs.Posted.{PostedValue}
use Rattle.fw_posted.specs.Rows.{segment_rows}
use Rattle.fw_posted.proofs.PartFacts.{few_segments, marks_count}
use Rattle.fw_posted.proofs.posted.PostedRows.segments.Goals as goal

pub returns-clause-marks : goal.returns-clause-marks
returns-clause-marks c =
    subst (λ (p : PostedValue). length p.counts ≡ length (segment_rows p.segments)) c.self.view_is
    (marks_count 0 c.self.inside.parts c.self.inside.segments c.self.invariant.parts)

pub returns-clause-few : goal.returns-clause-few
returns-clause-few c =
    subst (λ (p : PostedValue). length p.segments ≤ length (segment_rows p.segments)) c.self.view_is
    (few_segments 0 c.self.inside.parts c.self.inside.segments c.self.invariant.parts)
