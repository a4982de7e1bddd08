use Rattle.std.proofs.Common.{◌≡◌, ◌∙◌, ◌++◌, ◌∷◌, [], Bor, List, ℕ, ap, append_assoc, length, map, rules}
use Rattle.std.specs.Prelude.{option_copied, string_bytes}
use Rattle.std.proofs.lemmas.Int.{to_z-of_z}
use Rattle.std.proofs.lemmas.Result.{IfOk-weaker}
use mir.Val.{SFits}
use mir.Syntax.{w128}
use Rattle.fw_money.specs.Writing.{text_of}
use Rattle.fw_query.specs.Texts.{record_line}
use Rattle.fw_query.specs.Writers.{HasWritten}
use Rattle.fw_selections.specs.CsvText.{IsRecord, fields_of, has_hours, in_front, in_sum, placed, sum_text}
use Rattle.fw_selections.specs.Shown.{row_value}
use Rattle.fw_selections.specs.Writing.{WritesRecords}
use Rattle.fw_selections.specs.Written.{kind_word, sum_name, texts_under}
use Rattle.fw_selections.proofs.CsvFacts.{one_record}
use Rattle.fw_selections.proofs.csv_text.write_row.Goals as goal

pub returns : goal.returns
unfolding fields_of
returns c =
    let now = λ (f : Bor (List ℕ)). f.now in
    let sheet = c.args.sheet.now in
    let row = row_value c.args.row.now in
    let from = string_bytes c.in_ok-from.from in
    let to = string_bytes c.in_ok-to.to in
    let texts = texts_under (length sheet.keys.now) row.texts in
    let before = in_front (has_hours sheet) from to (kind_word row.texts) in
    let billed_fits : SFits w128 row.costs.billed = search rules in
    let effective_fits : SFits w128 row.costs.effective = search rules in
    let billed : c.as_str-3.result.now ≡ text_of row.costs.billed = c.as_str-3.ensures.value ∙ c.in_ok-billed.ensures ∙ ap text_of (to_z-of_z w128 _ billed_fits) in
    let effective : c.as_str-4.result.now ≡ text_of row.costs.effective = c.as_str-4.ensures.value ∙ c.in_ok-effective.ensures ∙ ap text_of (to_z-of_z w128 _ effective_fits) in
    let costs : c.as_str-3.result.now ∷ (c.as_str-4.result.now ∷ []) ≡ text_of row.costs.billed ∷ (text_of row.costs.effective ∷ []) =
    ap (λ b. b ∷ (c.as_str-4.result.now ∷ [])) billed ∙ ap (λ e. text_of row.costs.billed ∷ (e ∷ [])) effective in
    let first : map now c.in_ok-fields.fields.items ≡ before =
    c.in_ok-fields.ensures
    ∙ ap (λ h. in_front h c.as_str.result.now c.as_str-2.result.now c.kind_of-kind.result.now) c.has_hours.ensures
    ∙ ap (λ f. in_front (has_hours sheet) f c.as_str-2.result.now c.kind_of-kind.result.now) c.as_str.ensures.value
    ∙ ap (λ t. in_front (has_hours sheet) from t c.kind_of-kind.result.now) c.as_str-2.ensures.value
    ∙ ap (in_front (has_hours sheet) from to) c.kind_of-kind.ensures in
    let sum = in_sum (sum_text (sum_name sheet) row.costs.amount) in
    let sum_is : in_sum (option_copied c.lent.result) ≡ sum = ap in_sum (c.lent.ensures ∙ c.in_ok-amount.ensures) in
    let all : map now c.as_slice.result.now ≡ fields_of sheet from to row =
    ap (map now) c.as_slice.ensures.value
    ∙ c.in_ok-push_sum.ensures
    ∙ ap (λ s. map now c.push_costs.new.fields.items ++ s) sum_is
    ∙ ap (λ t. t ++ sum) (c.in_ok-push_costs.ensures
    ∙ ap (λ t. t ++ c.as_str-3.result.now ∷ (c.as_str-4.result.now ∷ [])) (c.in_ok-push_texts.ensures ∙ ap (λ t. t ++ texts) first)
    ∙ append_assoc before texts (c.as_str-3.result.now ∷ (c.as_str-4.result.now ∷ []))
    ∙ ap (λ t. before ++ (texts ++ t)) costs)
    ∙ append_assoc before (texts ++ text_of row.costs.billed ∷ (text_of row.costs.effective ∷ [])) sum
    ∙ ap (λ t. before ++ t) (append_assoc texts (text_of row.costs.billed ∷ (text_of row.costs.effective ∷ [])) sum) in
    let is : IsRecord sheet (record { hours = c.args.hours; row = row }) (record_line (map now c.as_slice.result.now)) = record {
      from = from;
      to = to;
      from_is = c.in_ok-from.ensures;
      to_is = c.in_ok-to.ensures;
      text_is = ap record_line all;
    } in
    IfOk-weaker c.write_record.result
    (λ _. (text : List ℕ) → HasWritten c.args.writer.now text → HasWritten c.write_record.new.writer (text ++ record_line (map now c.as_slice.result.now)))
    (λ _. (text : List ℕ) → HasWritten c.args.writer.now text → WritesRecords c.write_record.new.writer text sheet (placed c.args.hours (row ∷ [])))
    (λ _ wrote text has. record {
      added = record_line (map now c.as_slice.result.now);
      are_records = one_record sheet (record { hours = c.args.hours; row = row }) (record_line (map now c.as_slice.result.now)) is;
      wrote = wrote text has;
    })
    c.write_record.ensures
