use Rattle.std.proofs.Common.{◌∙◌, sym}
use Rattle.std.proofs.lemmas.Result.{IfOk-weaker}
use Rattle.fw_selections.specs.Shown.{is_chosen}
use Rattle.fw_selections.proofs.RowFacts.{some_rows, whole_rows}
use Rattle.fw_selections.proofs.rows.rows_under.Goals as goal

pub returns-then-is_empty : goal.returns-then-is_empty
returns-then-is_empty c =
    rw (whole_rows c.args.keys.now (is_chosen c.args.chosen) c.args.selection.now (sym c.is_empty.ensures ∙ c.if-is_empty.true)) c.whole_rows.ensures

pub returns : goal.returns
returns c =
    let is = some_rows c.args.keys.now (is_chosen c.args.chosen) c.args.selection.now (sym c.is_empty.ensures ∙ c.if-is_empty.false) in
    IfOk-weaker c.rows_of.result _ _ (λ _ are. are.rows_are ∙ sym is) c.rows_of.ensures
