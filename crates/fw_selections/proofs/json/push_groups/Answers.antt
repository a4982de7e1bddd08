use Rattle.std.proofs.Common.{◌≡◌, ◌∙◌, ◌++◌, List, ℕ, ap, append-nil, arith, map, sym}
use Rattle.std.specs.Prelude.{string_bytes}
use Rattle.std.proofs.lemmas.Bool.{eqb-false, eqb-true}
use Rattle.serde_json.specs.Written.{compact_text}
use Rattle.fw_selections.specs.JsonMembers.{listed}
use Rattle.fw_selections.specs.JsonText.{columns_of, row_object}
use Rattle.fw_selections.specs.Shown.{RowValue, is_chosen, row_value}
use Rattle.fw_selections.specs.Written.{shown_rows}
use Rattle.fw_selections.proofs.JsonFacts.{maps_are, no_rows, some_rows}
use Rattle.fw_selections.proofs.json.push_groups.Goals as goal

pub returns-then-is_empty : goal.returns-then-is_empty
returns-then-is_empty c =
    let keys = c.args.sheet.now.keys.now in
    let columns = columns_of c.args.sheet.now in
    let old = string_bytes c.args.text.now in
    let text : RowValue → List ℕ = λ row. compact_text (row_object columns row) in
    sym (append-nil old) ∙ ap (λ rows. old ++ listed (map text rows)) (sym (no_rows keys (is_chosen c.args.chosen) c.args.selection.now (eqb-true _ 0 (sym c.is_empty.ensures ∙ c.if-is_empty.true))))

pub returns : goal.returns
returns c =
    let keys = c.args.sheet.now.keys.now in
    let columns = columns_of c.args.sheet.now in
    let chosen = is_chosen c.args.chosen in
    let groups = c.args.selection.now in
    let old = string_bytes c.args.text.now in
    let text : RowValue → List ℕ = λ row. compact_text (row_object columns row) in
    let rows : map row_value c.as_slice.result.now ≡ shown_rows chosen groups = ap (map row_value) c.as_slice.ensures.value ∙ c.in_ok-rows.ensures.rows_are in
    let long = eqb-false _ 0 (sym c.is_empty.ensures ∙ c.if-is_empty.false) in
    c.in_ok-push_rows.ensures
    ∙ ap (λ ts. old ++ listed ts) (sym (maps_are text row_value c.as_slice.result.now))
    ∙ ap (λ rs. old ++ listed (map text rs)) (rows ∙ sym (some_rows keys chosen groups (omega (arith, long))))
