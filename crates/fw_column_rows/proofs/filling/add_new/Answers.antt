use Rattle.std.proofs.Common.{ℕ, List, [], Ok, refl, subst}
use Rattle.std.proofs.lemmas.Result.{err_from_is_err_and}
use Rattle.fw_charge.specs.Tags.{TagText}
use Rattle.fw_row_table.specs.Lending.{charge_with}
use Rattle.fw_rules.specs.Table.{NoneBroken}
use Rattle.fw_rows.specs.Parts.{TagsAnswer, texts_of}
use Rattle.fw_rows.specs.Rules.{length_rules}
use Rattle.fw_rows.specs.declared.column.Column.TheVariants as column
use Rattle.fw_rows.proofs.JudgedFacts.{within-back}
use Rattle.fw_column_rows.proofs.FillFacts.{last_text}
use Rattle.fw_column_rows.proofs.ViewFacts.{added_has, added_judged, view_charge}
use Rattle.fw_column_rows.proofs.filling.add_new.Goals as goal

pub returns-in_err-tags-clause-row : goal.returns-in_err-tags-clause-row
unfolding NoneBroken
returns-in_err-tags-clause-row c =
    let p = err_from_is_err_and c.from_residual.result c.from_residual.ensures.1 in
    rw (p.1, p.2) (within-back {A = List TagText} {B = Unit {0}} [] (length_rules (texts_of c.args.cells.now)) (λ _. ⊥) (λ _. ⊥) c.in_err-tags.field-0.0 tt c.in_err-tags.ensures)

pub push-requires-clause-valid : goal.push-requires-clause-valid
push-requires-clause-valid c =
    let short = c.in_ok-tags.ensures.1.1 in
    view_charge (texts_of c.args.cells.now) c.args.row.now c.in_ok-tags.tags c.requires.stands (record { id = short.id; unit = short.unit; sku = short.sku; sub_account = short.sub_account }) c.in_ok-tags.ensures.1.2

pub returns-clause-row : goal.returns-clause-row
returns-clause-row c = (c.in_ok-tags.ensures.0, (c.in_ok-tags.ensures.1.1, c.in_ok-tags.tags, c.in_ok-tags.ensures.1.0, c.in_ok-push.ensures.added))

pub returns-clause-tags : goal.returns-clause-tags
returns-clause-tags c =
    let tags = c.in_ok-tags.tags in
    last_text (texts_of c.args.cells.now column.Tags) tags c.args.columns.now c.push.new.self (charge_with c.args.row.now tags) c.in_ok-push.ensures.added refl c.in_ok-tags.ensures.1.0 c.in_ok-tags.ensures.1.2

pub returns-in-Some-clause-row : goal.returns-in-Some-clause-row
returns-in-Some-clause-row c =
    let at = texts_of c.args.cells.now in
    let States : List ℕ → Type 0 = λ t. TagsAnswer t (Ok c.in-Some.tags.now) in
    let stated = subst States c.requires.text c.in-Some.ensures in
    added_judged at c.args.row.now c.in-Some.tags.now c.args.columns.now c.add_these.new.columns stated.0 c.add_these.ensures.valid c.add_these.result c.add_these.ensures.row

pub returns-in-Some-clause-tags : goal.returns-in-Some-clause-tags
returns-in-Some-clause-tags c =
    let at = texts_of c.args.cells.now in
    let States : List ℕ → Type 0 = λ t. TagsAnswer t (Ok c.in-Some.tags.now) in
    let stated = subst States c.requires.text c.in-Some.ensures in
    added_has (at column.Tags) at c.args.row.now c.in-Some.tags.now c.args.columns.now c.add_these.new.columns c.add_these.result stated.0 c.add_these.ensures.valid c.add_these.ensures.row
