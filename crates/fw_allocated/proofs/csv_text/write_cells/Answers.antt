use Rattle.std.proofs.Common.{◌≡◌, ◌∙◌, ◌++◌, ◌∷◌, [], Bor, List, ℕ, ap, map}
use Rattle.std.specs.Prelude.{option_copied}
use Rattle.std.proofs.lemmas.List.{map-append}
use Rattle.fw_allocated.specs.Texts.{field_of}
use Rattle.fw_allocated.proofs.csv_text.write_cells.Goals as goal

pub returns : goal.returns
returns c =
    let now = λ (f : Bor (List ℕ)). f.now in
    let cells = map field_of (map option_copied c.args.cells.now) in
    let fields : map now c.as_slice.result.now ≡ cells ++ c.args.tags.now ∷ [] =
    ap (map now) (c.as_slice.ensures.value ∙ c.in_ok-push.ensures.items)
    ∙ map-append now c.in_ok-fields.fields.items (c.as_bytes.result ∷ [])
    ∙ ap (λ t. t ++ c.as_bytes.result.now ∷ []) c.in_ok-fields.ensures
    ∙ ap (λ b. cells ++ b ∷ []) c.as_bytes.ensures.value in
    rw fields at c.write_record.ensures
