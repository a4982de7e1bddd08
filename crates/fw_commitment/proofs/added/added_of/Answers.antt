use Rattle.std.proofs.Common.{refl, subst, sym}
use Rattle.std.proofs.lemmas.Result.{err_from_is_err_and}
use Rattle.fw_toml.specs.Tree.{stated, HasOnly}
use Rattle.fw_commitment.specs.FieldNames.{added_names}
use Rattle.fw_commitment.specs.Rules.{id_rules}
use Rattle.fw_commitment.specs.Added.{AddedStands, added_rules, at_rules, billed_rules, other_rules}
use Rattle.fw_commitment.specs.declared.fault.CommitmentField.TheVariants as field
use Rattle.fw_commitment.specs.declared.fault.CommitmentFault.TheVariants as fault
use Rattle.fw_commitment.proofs.RuleFacts.{fault-here, fault-later, none-append}
use Rattle.fw_commitment.proofs.AddedFacts.{only-broken, only-holds}
use Rattle.fw_commitment.proofs.added.added_of.Goals as goal

pub returns-in_err-id : goal.returns-in_err-id
unfolding added_rules
returns-in_err-id c =
    let ms = stated c.args.table.now in
    let p = err_from_is_err_and c.from_residual.result c.from_residual.ensures.1 in
    rw (p.1, p.2) (fault-here (id_rules ms) _ c.in_err-id.field-0.0 c.in_err-id.ensures)

pub returns-in_err-at : goal.returns-in_err-at
unfolding added_rules
returns-in_err-at c =
    let ms = stated c.args.table.now in
    let p = err_from_is_err_and c.from_residual-in_err-at.result c.from_residual-in_err-at.ensures.1 in
    let f = c.in_err-at.field-0.0 in
    rw (p.1, p.2) (fault-later (id_rules ms) _ f c.in_ok-id.ensures.0 (fault-here (at_rules ms) _ f c.in_err-at.ensures))

pub returns-in_err-billed : goal.returns-in_err-billed
unfolding added_rules
returns-in_err-billed c =
    let ms = stated c.args.table.now in
    let p = err_from_is_err_and c.from_residual-in_err-billed.result c.from_residual-in_err-billed.ensures.1 in
    let f = c.in_err-billed.field-0.0 in
    rw (p.1, p.2) (fault-later (id_rules ms) _ f c.in_ok-id.ensures.0
    (fault-later (at_rules ms) _ f c.in_ok-at.ensures.0 (fault-here (billed_rules ms) (other_rules ms) f c.in_err-billed.ensures)))

pub returns-then-not-has_only : goal.returns-then-not-has_only
unfolding added_rules
returns-then-not-has_only c =
    let ms = stated c.args.table.now in
    let f = fault.Field field.Unknown in
    let others : ¬ HasOnly added_names ms = λ only. let test = c.if-not-has_only.ensures.1 only in absurd (cc) in
    fault-later (id_rules ms) _ f c.in_ok-id.ensures.0
    (fault-later (at_rules ms) _ f c.in_ok-at.ensures.0 (fault-later (billed_rules ms) (other_rules ms) f c.in_ok-billed.ensures.0 (λ _. only-broken ms others)))

pub returns : goal.returns
unfolding added_rules
returns c =
    let ms = stated c.args.table.now in
    let only : HasOnly added_names ms = c.if-not-has_only.ensures.0 refl in
    let none = none-append (id_rules ms) _ c.in_ok-id.ensures.0
    (none-append (at_rules ms) _ c.in_ok-at.ensures.0 (none-append (billed_rules ms) (other_rules ms) c.in_ok-billed.ensures.0 (only-holds ms only))) in (
      none,
      subst (AddedStands ms) (sym c.of_fields.ensures) (record {
        id = rw c.in_ok-id-2.ensures.ok c.in_ok-id.ensures.1.0;
        at = rw c.of_fields-purchase.ensures.at c.in_ok-at.ensures.1.0;
        billed = rw c.of_fields-purchase.ensures.billed c.in_ok-billed.ensures.1.0;
      }),
    )
