use Rattle.std.proofs.Common.{◌∙◌, ◌∷◌, [], ◌++◌, ap, sym, take}
use Rattle.std.specs.Prelude.{string_bytes}
use Rattle.std.proofs.lemmas.List.{take_more}
use Rattle.serde_json.specs.Written.{compact_text}
use Rattle.fw_selections.specs.JsonText.{columns_of, row_object}
use Rattle.fw_selections.specs.Shown.{row_value}
use Rattle.fw_selections.proofs.JsonFacts.{listed_more}
use Rattle.fw_selections.proofs.json.push_rows.Goals as goal

pub loop-place-preserved : goal.loop-place-preserved
loop-place-preserved c =
    let columns = columns_of c.args.sheet.now in
    let rows = c.args.rows.now in
    let i = c.loop-place.place in
    let row = c.index-rows-place.result in
    listed_more (λ row. compact_text (row_object columns (row_value row))) rows i row (string_bytes c.args.text.now) (string_bytes c.loop-place.text) (string_bytes c.push_comma.new.text) (string_bytes c.push_row.new.text)
    (take_more rows i row c.loop-place-test.true ∙ ap (λ r. take i rows ++ r ∷ []) (sym c.index-rows-place.is)) c.loop-place.invariant c.in_ok-push_comma.ensures c.in_ok-push_row.ensures
