use Rattle.std.proofs.Common.{◌++◌}
use Rattle.std.proofs.lemmas.Result.{err_from_is_err_and}
use Rattle.fw_rows.specs.Parts.{texts_of, charged_rules}
use Rattle.fw_rows.specs.Rules.{word_rules, cost_rules, period_rules}
use Rattle.fw_rows.proofs.JudgedFacts.{first-front, first-back, none-both}
use Rattle.fw_rows.proofs.cells.Cells.charged.Goals as goal

pub returns-in_err-words : goal.returns-in_err-words
unfolding charged_rules
returns-in_err-words c =
    let at = texts_of c.args.self.now in
    let p = err_from_is_err_and c.from_residual.result c.from_residual.ensures.1 in
    rw (p.1, p.2) (first-front (word_rules at) (cost_rules c.args.currency at ++ period_rules at) c.in_err-words.field-0.0 c.in_err-words.ensures)

pub returns-in_err-costs : goal.returns-in_err-costs
unfolding charged_rules
returns-in_err-costs c =
    let at = texts_of c.args.self.now in
    let f = c.in_err-costs.field-0.0 in
    let p = err_from_is_err_and c.from_residual-in_err-costs.result c.from_residual-in_err-costs.ensures.1 in
    rw (p.1, p.2) (first-back (word_rules at) (cost_rules c.args.currency at ++ period_rules at) f c.in_ok-words.ensures.0 (first-front (cost_rules c.args.currency at) (period_rules at) f c.in_err-costs.ensures))

pub returns-in_err-period : goal.returns-in_err-period
unfolding charged_rules
returns-in_err-period c =
    let at = texts_of c.args.self.now in
    let f = c.in_err-period.field-0.0 in
    let p = err_from_is_err_and c.from_residual-in_err-period.result c.from_residual-in_err-period.ensures.1 in
    rw (p.1, p.2) (first-back (word_rules at) (cost_rules c.args.currency at ++ period_rules at) f c.in_ok-words.ensures.0 (first-back (cost_rules c.args.currency at) (period_rules at) f c.in_ok-costs.ensures.0 c.in_err-period.ensures))

pub returns : goal.returns
unfolding charged_rules
returns c =
    let at = texts_of c.args.self.now in (
      none-both (word_rules at) (cost_rules c.args.currency at ++ period_rules at) c.in_ok-words.ensures.0 (none-both (cost_rules c.args.currency at) (period_rules at) c.in_ok-costs.ensures.0 c.in_ok-period.ensures.0),
      record { words = c.in_ok-words.ensures.1; costs = c.in_ok-costs.ensures.1; period = c.in_ok-period.ensures.1 },
    )
