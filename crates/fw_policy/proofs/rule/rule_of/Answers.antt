use Rattle.std.proofs.Common.{◌∙◌, sym, subst}
use Rattle.std.proofs.lemmas.Result.{err_from_is_err_and}
use Rattle.fw_toml.specs.Tree.{stated}
use Rattle.fw_policy.specs.Parts.{IsFrom, IsGiven}
use Rattle.fw_policy.proofs.RuleFacts.{from_fault, give_fault, rule_is}
use Rattle.fw_policy.proofs.rule.rule_of.Goals as goal

pub returns-in_err-from : goal.returns-in_err-from
returns-in_err-from c =
    let p = err_from_is_err_and c.from_residual.result c.from_residual.ensures.1 in
    rw (p.1, p.2) (from_fault (stated c.args.table.now) c.in_err-from.field-0.0 c.in_err-from.ensures)

pub returns-in_err-give : goal.returns-in_err-give
returns-in_err-give c =
    let p = err_from_is_err_and c.from_residual-in_err-give.result c.from_residual-in_err-give.ensures.1 in
    rw (p.1, p.2) (give_fault (stated c.args.table.now) c.in_ok-from.from.now c.in_err-give.field-0.0 c.in_ok-from.ensures c.in_err-give.ensures)

pub returns : goal.returns
returns c =
    let from = c.of_fields.ensures.from ∙ c.in_ok-from_str.ensures.ok in
    let give = c.of_fields.ensures.give in
    rule_is (stated c.args.table.now) c.of_fields.result
    (subst (IsFrom (stated c.args.table.now)) (sym from) c.in_ok-from.ensures)
    (subst (IsGiven (stated c.args.table.now)) (sym give) c.in_ok-give.ensures)
