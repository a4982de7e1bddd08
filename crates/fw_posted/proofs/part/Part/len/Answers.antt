use Rattle.std.proofs.Common.{◌∙◌, ap, length, sym}
use Rattle.fw_posted.specs.Parts.{PartValue}
use Rattle.fw_posted.proofs.GoneFacts.{marks_long}
use Rattle.fw_posted.proofs.part.Part.len.Goals as goal

pub returns : goal.returns
returns c = sym (marks_long c.self.inside c.self.invariant) ∙ ap (λ (v : PartValue). length v.marks) c.self.view_is
