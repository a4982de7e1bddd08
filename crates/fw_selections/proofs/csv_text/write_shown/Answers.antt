use Rattle.std.proofs.Common.{◌∙◌, List, ℕ, subst, sym}
use Rattle.std.proofs.lemmas.Result.{IfOk-weaker}
use Rattle.fw_query.specs.Writers.{HasWritten}
use Rattle.fw_selections.specs.CsvText.{placed_rows}
use Rattle.fw_selections.specs.Shown.{is_chosen}
use Rattle.fw_selections.specs.Writing.{WritesRecords, WritesShown}
use Rattle.fw_selections.specs.Written.{AreChosen, parts_by}
use Rattle.fw_selections.proofs.RowFacts.{all_chosen, some_chosen}
use Rattle.fw_selections.proofs.csv_text.write_shown.Goals as goal

pub returns-in_ok-chosen-in-Some : goal.returns-in_ok-chosen-in-Some
returns-in_ok-chosen-in-Some c =
    let sheet = c.args.sheet.now in
    let selections = c.args.selections.now in
    let shown = c.of-shown.result in
    let rows = placed_rows sheet (is_chosen shown) (parts_by sheet.step sheet.hours selections) in
    let are : AreChosen sheet.top selections.whole (is_chosen shown) =
    subst (λ top. AreChosen top selections.whole (is_chosen shown)) (sym c.in-Some.is)
    (c.in_ok-chosen-in-Some.chosen.items, c.in_ok-chosen-in-Some.ensures, some_chosen shown c.in_ok-chosen-in-Some.chosen.items c.of-shown.ensures.all (c.of-shown.ensures.groups ∙ c.as_slice.ensures.value)) in
    IfOk-weaker c.write_all.result
    (λ _. (text : List ℕ) → HasWritten c.args.writer.now text → WritesRecords c.write_all.new.writer text sheet rows)
    (λ _. (text : List ℕ) → HasWritten c.args.writer.now text → WritesShown c.write_all.new.writer text selections sheet)
    (λ _ wrote text has. record { chosen = is_chosen shown; are_chosen = are; writes = wrote text has })
    c.write_all.ensures

pub returns-in-None : goal.returns-in-None
returns-in-None c =
    let sheet = c.args.sheet.now in
    let selections = c.args.selections.now in
    let shown = c.all.result in
    let rows = placed_rows sheet (is_chosen shown) (parts_by sheet.step sheet.hours selections) in
    let are : AreChosen sheet.top selections.whole (is_chosen shown) =
    subst (λ top. AreChosen top selections.whole (is_chosen shown)) (sym c.in-None.is) (all_chosen shown c.all.ensures) in
    IfOk-weaker c.write_all-in-None.result
    (λ _. (text : List ℕ) → HasWritten c.args.writer.now text → WritesRecords c.write_all-in-None.new.writer text sheet rows)
    (λ _. (text : List ℕ) → HasWritten c.args.writer.now text → WritesShown c.write_all-in-None.new.writer text selections sheet)
    (λ _ wrote text has. record { chosen = is_chosen shown; are_chosen = are; writes = wrote text has })
    c.write_all-in-None.ensures
