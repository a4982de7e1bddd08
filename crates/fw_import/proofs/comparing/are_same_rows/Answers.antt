use Rattle.std.proofs.Common.{◌≡◌, ◌∙◌, ◌++◌, ◌∷◌, [], sym}
use Rattle.std.proofs.lemmas.List.{take_more}
use Rattle.std.proofs.lemmas.Option.{slice_get_within, get_or_from_slice_get}
use Rattle.fw_import.proofs.comparing.are_same_rows.Goals as goal

pub loop-place-preserved : goal.loop-place-preserved
loop-place-preserved c =
    let a = c.args.one.now in
    let b = c.args.other.now in
    let i = c.loop-place.place in
    let x = c.lent.result in
    let y = c.lent-in-loop-place.result in
    let same : x ≡ y = c.is_same_row.ensures.0 c.if-not-is_same_row.false in
    let here = slice_get_within a i x c.lent.ensures in
    let there = slice_get_within b i y c.lent-in-loop-place.ensures in
    let row = get_or_from_slice_get a i x x c.lent.ensures ∙ (same ∙ sym (get_or_from_slice_get b i y y c.lent-in-loop-place.ensures)) in
    take_more a i x here ∙ ((λ j. c.loop-place.invariant j ++ row j ∷ []) ∙ sym (take_more b i y there))
