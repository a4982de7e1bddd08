use Rattle.std.proofs.Common.{◌≡◌, ◌∙◌, ◌≤◌, ◌<◌, ap, arith, length, sym}
use Rattle.fw_posted.specs.Kept.{kept_left, kept_rows, left_of}
use Rattle.fw_posted.specs.Parts.{PartValue}
use Rattle.fw_posted.proofs.GoneFacts.{since_none, since_some}
use Rattle.fw_posted.proofs.part.Part.kept.Goals as goal

pub returns-then-len-gt0 : goal.returns-then-len-gt0
unfolding kept_left
returns-then-len-gt0 c =
    let p = c.self.inside in
    sym (since_some p.gone (kept_rows p.left) (omega (arith, c.if-len-gt0.true, c.len.ensures))) ∙ ap (λ (v : PartValue). v.left) c.self.view_is

pub returns-in-None : goal.returns-in-None
unfolding kept_left
returns-in-None c =
    let p = c.self.inside in
    sym (ap kept_rows c.in-None.is) ∙ sym (since_none p.gone (kept_rows p.left) (omega (arith, c.if-len-gt0.false, c.len.ensures))) ∙ ap (λ (v : PartValue). v.left) c.self.view_is

pub returns-in-Some : goal.returns-in-Some
returns-in-Some c =
    let p = c.self.inside in
    c.kept.ensures ∙ ap left_of c.deref.ensures ∙ sym (ap kept_rows c.in-Some.is)
    ∙ sym (since_none p.gone (kept_rows p.left) (omega (arith, c.if-len-gt0.false, c.len.ensures))) ∙ ap (λ (v : PartValue). v.left) c.self.view_is
