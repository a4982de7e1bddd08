use Rattle.std.proofs.Common.{◌∙◌, ◌++◌, ◌∷◌, [], Bor, List, ℕ, ap, append_assoc, arith, map, sym}
use Rattle.std.proofs.lemmas.List.{map-append}
use Rattle.std.proofs.lemmas.List.FromFn.{map-range_with_len_more}
use Rattle.fw_selections.specs.Shown.{row_value}
use Rattle.fw_selections.specs.Written.{text_at, texts_under}
use Rattle.fw_selections.proofs.csv_text.push_texts.Goals as goal

pub loop-place-preserved : goal.loop-place-preserved
loop-place-preserved c =
    let now = λ (f : Bor (List ℕ)). f.now in
    let texts = (row_value c.args.row.now).texts in
    let i = c.loop-place.place in
    let old = map now c.args.fields.now.items in
    ap (map now) c.in_ok-push.ensures.items
    ∙ map-append now c.loop-place.fields.items (c.as_bytes.result ∷ [])
    ∙ ap (λ t. t ++ c.as_bytes.result.now ∷ []) c.loop-place.invariant
    ∙ ap (λ b. (old ++ texts_under i texts) ++ b ∷ []) (c.as_bytes.ensures.value ∙ c.text_at.ensures)
    ∙ append_assoc old (texts_under i texts) (text_at texts i ∷ [])
    ∙ ap (λ t. old ++ t) (sym (map-range_with_len_more (text_at texts) 0 i i (omega arith)))
