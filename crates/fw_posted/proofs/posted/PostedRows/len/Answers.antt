use Rattle.std.proofs.Common.{◌∙◌, ap, length, sym}
use Rattle.fw_posted.proofs.PartFacts.{marks_count}
use Rattle.fw_posted.proofs.posted.PostedRows.len.Goals as goal

pub returns-clause-marks : goal.returns-clause-marks
returns-clause-marks c =
    c.self.invariant.rows ∙ sym (marks_count 0 c.self.inside.parts c.self.inside.segments c.self.invariant.parts) ∙ ap (λ p. length p.counts) c.self.view_is
