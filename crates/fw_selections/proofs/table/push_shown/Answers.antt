use Rattle.std.proofs.Common.{◌∙◌, map, subst, sym}
use Rattle.std.proofs.lemmas.Result.{IfOk-weaker}
use Rattle.fw_selections.specs.Lines.{AddsParts, AddsShown}
use Rattle.fw_selections.specs.Shown.{is_chosen}
use Rattle.fw_selections.specs.TableText.{line_value}
use Rattle.fw_selections.specs.Written.{AreChosen, parts_by}
use Rattle.fw_selections.proofs.RowFacts.{all_chosen, some_chosen}
use Rattle.fw_selections.proofs.table.push_shown.Goals as goal

pub returns-in_ok-chosen-in-Some : goal.returns-in_ok-chosen-in-Some
returns-in_ok-chosen-in-Some c =
    let sheet = c.args.sheet.now in
    let selections = c.args.selections.now in
    let shown = c.of-shown.result in
    let old = map line_value c.args.lines.now.items in
    let new = map line_value c.push_all.new.lines.items in
    let are : AreChosen sheet.top selections.whole (is_chosen shown) =
    subst (λ top. AreChosen top selections.whole (is_chosen shown)) (sym c.in-Some.is)
    (c.in_ok-chosen-in-Some.chosen.items, c.in_ok-chosen-in-Some.ensures, some_chosen shown c.in_ok-chosen-in-Some.chosen.items c.of-shown.ensures.all (c.of-shown.ensures.groups ∙ c.as_slice.ensures.value)) in
    IfOk-weaker c.push_all.result (λ _. AddsParts old new sheet (is_chosen shown) (parts_by sheet.step sheet.hours selections)) (λ _. AddsShown old new selections sheet)
    (λ _ added. record { chosen = is_chosen shown; are_chosen = are; parts = added })
    c.push_all.ensures

pub returns-in-None : goal.returns-in-None
returns-in-None c =
    let sheet = c.args.sheet.now in
    let selections = c.args.selections.now in
    let shown = c.all.result in
    let old = map line_value c.args.lines.now.items in
    let new = map line_value c.push_all-in-None.new.lines.items in
    let are : AreChosen sheet.top selections.whole (is_chosen shown) =
    subst (λ top. AreChosen top selections.whole (is_chosen shown)) (sym c.in-None.is) (all_chosen shown c.all.ensures) in
    IfOk-weaker c.push_all-in-None.result (λ _. AddsParts old new sheet (is_chosen shown) (parts_by sheet.step sheet.hours selections)) (λ _. AddsShown old new selections sheet)
    (λ _ added. record { chosen = is_chosen shown; are_chosen = are; parts = added })
    c.push_all-in-None.ensures
