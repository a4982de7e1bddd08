use Rattle.std.proofs.Common.{sym, subst, codes}
use Rattle.std.proofs.lemmas.Result.{err_from_is_err_and}
use Rattle.fw_toml.specs.Tree.{stated}
use Rattle.fw_commitment.specs.Rules.{rules_of, id_and_term_rules, terms_rules, billing_rules}
use Rattle.fw_commitment.proofs.RuleFacts.{fault-here, fault-later, none-append}
use Rattle.fw_commitment.specs.Fields.{HasKind, HasAmount}
use Rattle.fw_commitment.proofs.ReadFacts.{amount_of}
use Rattle.fw_commitment.proofs.reading.commitment_of.Goals as goal

pub returns-in_err-id_and_term : goal.returns-in_err-id_and_term
unfolding rules_of
returns-in_err-id_and_term c =
    let ms = stated c.args.table.now in
    let p = err_from_is_err_and c.from_residual.result c.from_residual.ensures.1 in
    rw (p.1, p.2) (fault-here (id_and_term_rules ms) _ c.in_err-id_and_term.field-0.0 c.in_err-id_and_term.ensures)

pub returns-in_err-terms : goal.returns-in_err-terms
unfolding rules_of
returns-in_err-terms c =
    let ms = stated c.args.table.now in
    let p = err_from_is_err_and c.from_residual-in_err-terms.result c.from_residual-in_err-terms.ensures.1 in
    let f = c.in_err-terms.field-0.0 in
    rw (p.1, p.2) (fault-later (id_and_term_rules ms) _ f c.in_ok-id_and_term.ensures.0 (fault-here (terms_rules ms) (billing_rules ms) f c.in_err-terms.ensures))

pub returns-in_err-billing : goal.returns-in_err-billing
unfolding rules_of
returns-in_err-billing c =
    let ms = stated c.args.table.now in
    let p = err_from_is_err_and c.from_residual-in_err-billing.result c.from_residual-in_err-billing.ensures.1 in
    let f = c.in_err-billing.field-0.0 in
    rw (p.1, p.2) (fault-later (id_and_term_rules ms) _ f c.in_ok-id_and_term.ensures.0 (fault-later (terms_rules ms) (billing_rules ms) f c.in_ok-terms.ensures.0 c.in_err-billing.ensures))

pub returns : goal.returns
unfolding rules_of
returns c =
    let ms = stated c.args.table.now in
    let none = none-append (id_and_term_rules ms) _ c.in_ok-id_and_term.ensures.0 (none-append (terms_rules ms) (billing_rules ms) c.in_ok-terms.ensures.0 c.in_ok-billing.ensures.0) in
    let first = c.in_ok-id_and_term.ensures.1 in
    let terms = c.in_ok-terms.ensures.1 in
    let billing = c.in_ok-billing.ensures.1 in
    let amount = amount_of c.in_ok-id_and_term.id_and_term.capacity first.capacity_some in (
      none,
      rw (c.of_fields.ensures, c.in_ok-fields.ensures.ok) (record {
        id = first.id;
        kind = subst (HasKind ms) (sym terms.2) first.kind;
        start = first.start;
        hours = first.hours;
        capacity = subst (HasAmount ms (codes "capacity")) (sym amount) first.capacity;
        terms = terms.0;
        sub_account = billing.sub_account;
        tags = billing.tags;
        purchases = billing.purchases;
      }),
    )
