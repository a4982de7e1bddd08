use Rattle.std.proofs.lemmas.Result.{err_from_is_err_and}
use Rattle.fw_rows.specs.Parts.{texts_of, charged_rules, detail_rules}
use Rattle.fw_rows.proofs.JudgedFacts.{first-front, none-both, rules_parted}
use Rattle.fw_rows.proofs.MakingFacts.{details_fault}
use Rattle.fw_rows.proofs.cells.Cells.row.Goals as goal

pub returns-in_err-charged : goal.returns-in_err-charged
returns-in_err-charged c =
    let at = texts_of c.args.self.now in
    let p = err_from_is_err_and c.from_residual.result c.from_residual.ensures.1 in
    rw (p.1, p.2, rules_parted c.args.currency at) (first-front (charged_rules c.args.currency at) (detail_rules at) c.in_err-charged.field-0.0 c.in_err-charged.ensures)

pub returns-in_err-details : goal.returns-in_err-details
returns-in_err-details c =
    let at = texts_of c.args.self.now in
    let p = err_from_is_err_and c.from_residual-in_err-details.result c.from_residual-in_err-details.ensures.1 in
    rw (p.1, p.2) (details_fault c.args.currency at c.in_err-details.field-0.0 c.in_ok-charged.ensures.0 c.in_err-details.ensures)

pub returns : goal.returns
returns c =
    let at = texts_of c.args.self.now in
    rw (rules_parted c.args.currency at) (none-both (charged_rules c.args.currency at) (detail_rules at) c.in_ok-charged.ensures.0 c.in_ok-details.ensures.0, c.in_ok-made.ensures)
