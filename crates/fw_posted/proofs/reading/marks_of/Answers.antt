use Rattle.std.proofs.Common.{◌∙◌, ◌++◌, ap, sym, take}
use Rattle.fw_posted.specs.Parts.{all_marks}
use Rattle.fw_posted.proofs.MarkFacts.{take_next}
use Rattle.fw_posted.proofs.PartFacts.{push_marks}
use Rattle.fw_posted.proofs.reading.marks_of.Goals as goal

pub loop-place-preserved : goal.loop-place-preserved
loop-place-preserved c =
    let parts = c.args.parts.now in
    let place = c.loop-place.place in
    let part = c.get.result.now in
    c.in_ok-extend_from_slice.ensures.items ∙ ap (λ l. c.loop-place.marks.items ++ l) (c.deref.ensures.value ∙ c.in_ok-own.ensures) ∙ ap (λ l. l ++ part.marks) c.loop-place.invariant
    ∙ sym (ap all_marks (take_next parts place part c.get.ensures) ∙ push_marks (take place parts) part)
