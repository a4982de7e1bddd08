use Rattle.std.proofs.lemmas.Result.{err_from_is_err_and}
use Rattle.fw_rows.specs.Parts.{texts_of, discount_rules}
use Rattle.fw_rows.specs.Rules.{KindReads, kind_rules, status_rules}
use Rattle.fw_rows.proofs.JudgedFacts.{first-front, first-back, none-both}
use Rattle.fw_rows.proofs.cells.Cells.discount.Goals as goal

pub returns-in_err-kind : goal.returns-in_err-kind
unfolding discount_rules
returns-in_err-kind c =
    let at = texts_of c.args.self.now in
    let p = err_from_is_err_and c.from_residual.result c.from_residual.ensures.1 in
    rw (p.1, p.2) (first-front (kind_rules at) (status_rules at) c.in_err-kind.field-0.0 c.in_err-kind.ensures)

pub returns-in_err-status : goal.returns-in_err-status
unfolding discount_rules
returns-in_err-status c =
    let at = texts_of c.args.self.now in
    let p = err_from_is_err_and c.from_residual-in_err-status.result c.from_residual-in_err-status.ensures.1 in
    rw (p.1, p.2) (first-back (kind_rules at) (status_rules at) c.in_err-status.field-0.0 c.in_ok-kind.ensures.0 c.in_err-status.ensures)

pub returns-in-Some : goal.returns-in-Some
unfolding discount_rules
returns-in-Some c =
    let at = texts_of c.args.self.now in
    let kind = rw c.in-Some.is at c.in_ok-kind.ensures.1 in
    (none-both (kind_rules at) (status_rules at) c.in_ok-kind.ensures.0 c.in_ok-status.ensures.0, record { id = c.text.ensures; kind = kind; status = c.in_ok-status.ensures.1 })

pub returns-in-None : goal.returns-in-None
unfolding discount_rules KindReads
returns-in-None c =
    let at = texts_of c.args.self.now in
    let kind = rw c.in-None.is at c.in_ok-kind.ensures.1 in
    (none-both (kind_rules at) (status_rules at) c.in_ok-kind.ensures.0 c.in_ok-status.ensures.0, kind.0)
