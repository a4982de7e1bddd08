use Rattle.std.proofs.Common.{◌≡◌, ◌∙◌, ◌++◌, ◌∷◌, [], List, ℕ, ap, map, subst}
use Rattle.std.specs.Prelude.{option_copied, string_bytes}
use Rattle.std.proofs.lemmas.Result.{IfOk-weaker}
use Rattle.fw_query.specs.Texts.{record_line}
use Rattle.fw_query.specs.Writers.{HasWritten}
use Rattle.fw_allocated.specs.Cells.{cells_of}
use Rattle.fw_allocated.specs.OwnTexts.{AreOwnTexts}
use Rattle.fw_allocated.specs.Texts.{field_of}
use Rattle.fw_allocated.specs.Writing.{WritesRow}
use Rattle.fw_allocated.proofs.TextFacts.{record_is}
use Rattle.fw_allocated.proofs.csv_text.write_row.Goals as goal

pub returns : goal.returns
returns c =
    let own = c.in_ok-own.own in
    let found = map option_copied c.cells-cells.result in
    let are : AreOwnTexts c.args.row.now own = subst (λ r. AreOwnTexts r own) c.fields.ensures c.in_ok-own.ensures in
    let cells : found ≡ cells_of c.args.currency.now c.args.row.now (string_bytes own.start) (string_bytes own.end) =
    c.cells-cells.ensures ∙ ap (λ r. cells_of c.args.currency.now r (string_bytes own.start) (string_bytes own.end)) c.fields-2.ensures in
    IfOk-weaker c.write_cells.result
    (λ _. (text : List ℕ) → HasWritten c.args.writer.now text → HasWritten c.write_cells.new.writer (text ++ record_line (map field_of found ++ c.as_str.result.now ∷ [])))
    (λ _. (text : List ℕ) → HasWritten c.args.writer.now text → WritesRow c.write_cells.new.writer text c.args.currency.now c.args.row.now)
    (λ _ wrote text has. record {
      record_text = record_line (map field_of found ++ c.as_str.result.now ∷ []);
      is_record = record_is c.args.currency.now c.args.row.now own found c.as_str.result.now are cells c.as_str.ensures.value;
      wrote = wrote text has;
    })
    c.write_cells.ensures
