use Rattle.std.proofs.Common.{◌≡◌, ◌∙◌, sym, ap, subst, ℕ, List, map}
use Rattle.fw_charge.specs.Charge.{Charge}
use Rattle.fw_row_table.specs.Texts.{names_of}
use Rattle.fw_columns.specs.Codes.{tag_code, AgreeWithGroups}
use Rattle.fw_row_table.specs.Table.{rows_of}
use Rattle.fw_columns.proofs.GroupFacts.{groups_agree}
use Rattle.fw_columns.proofs.columns.Columns.tag_codes.Goals as goal

pub returns-clause-codes : goal.returns-clause-codes
returns-clause-codes c =
    let same : c.table-kept.result.now.names ≡ names_of c.args.self.now = c.table-kept.ensures.columns.names ∙ ap names_of c.table-kept.ensures.rows in
    c.in_ok-codes.ensures ∙ (λ j. map (tag_code c.args.key.now (same j)) (c.table-kept.ensures.rows j))

pub returns-clause-agree : goal.returns-clause-agree
returns-clause-agree c =
    let key = c.args.key.now in
    let t = c.table-kept.result.now in
    let ToCodes : List ℕ → Type 0 = λ codes. AgreeWithGroups key (rows_of t) codes in
    let ToRows : List Charge → Type 0 = λ rows. AgreeWithGroups key rows c.in_ok-codes.codes.items in
    subst ToRows c.table-kept.ensures.rows (subst ToCodes (sym c.in_ok-codes.ensures) (groups_agree t (rows_of t) c.table-kept.ensures.columns key))
