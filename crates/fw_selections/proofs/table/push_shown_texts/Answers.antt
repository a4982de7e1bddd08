use Rattle.std.proofs.Common.{◌∙◌, ◌++◌, ◌∷◌, [], ap, append_assoc, arith, map, sym}
use Rattle.std.specs.Prelude.{string_bytes}
use Rattle.std.specs.List.{range_with_len}
use Rattle.std.proofs.lemmas.List.FromFn.{map-range_with_len_more}
use Rattle.fw_selections.specs.Shown.{row_value}
use Rattle.fw_selections.specs.TableText.{shown_at}
use Rattle.fw_selections.proofs.table.push_shown_texts.Goals as goal

pub loop-place-preserved : goal.loop-place-preserved
loop-place-preserved c =
    let shown = shown_at c.args.keys.now (row_value c.args.row.now).texts in
    let i = c.loop-place.place in
    let old = map string_bytes c.args.texts.now.items in
    let before = map shown (range_with_len 0 i) in
    c.in_ok-push_text.ensures
    ∙ ap (λ t. t ++ c.shown_at.result.now ∷ []) c.loop-place.invariant
    ∙ ap (λ b. (old ++ before) ++ b ∷ []) c.shown_at.ensures
    ∙ append_assoc old before (shown i ∷ [])
    ∙ ap (λ t. old ++ t) (sym (map-range_with_len_more shown 0 i i (omega arith)))
