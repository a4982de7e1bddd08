use Rattle.std.proofs.Common.{refl, subst}
use Rattle.std.proofs.lemmas.Result.{err_from_is_err_and}
use Rattle.fw_charge.specs.declared.discount.DiscountKind.{DiscountKind}
use Rattle.fw_toml.specs.Tree.{stated, HasOnly}
use Rattle.fw_commitment.specs.FieldNames.{names_of}
use Rattle.fw_commitment.specs.Fields.{HasKind}
use Rattle.fw_commitment.specs.Rules.{billing_rules, sub_account_rules, tags_rules, purchase_rules, unknown_rules}
use Rattle.fw_commitment.specs.declared.fault.CommitmentField.TheVariants as field
use Rattle.fw_commitment.specs.declared.fault.CommitmentFault.TheVariants as fault
use Rattle.fw_commitment.proofs.RuleFacts.{fault-here, fault-later, none-append, alone-fits, alone-missing}
use Rattle.fw_commitment.proofs.ValueFacts.{kind-one}
use Rattle.fw_commitment.proofs.billing.Billing.of_table.Goals as goal

pub returns-in_err-sub_account : goal.returns-in_err-sub_account
unfolding billing_rules
returns-in_err-sub_account c =
    let ms = stated c.args.table.now in
    let p = err_from_is_err_and c.from_residual.result c.from_residual.ensures.1 in
    let f = c.in_err-sub_account.field-0.0 in
    rw (p.1, p.2) (fault-here (sub_account_rules ms) _ f c.in_err-sub_account.ensures)

pub returns-in_err-tags : goal.returns-in_err-tags
unfolding billing_rules
returns-in_err-tags c =
    let ms = stated c.args.table.now in
    let p = err_from_is_err_and c.from_residual-in_err-tags.result c.from_residual-in_err-tags.ensures.1 in
    let f = c.in_err-tags.field-0.0 in
    rw (p.1, p.2) (fault-later (sub_account_rules ms) _ f c.in_ok-sub_account.ensures.0 (fault-here (tags_rules ms) _ f c.in_err-tags.ensures))

pub returns-in_err-purchases : goal.returns-in_err-purchases
unfolding billing_rules
returns-in_err-purchases c =
    let ms = stated c.args.table.now in
    let p = err_from_is_err_and c.from_residual-in_err-purchases.result c.from_residual-in_err-purchases.ensures.1 in
    let f = c.in_err-purchases.field-0.0 in
    rw (p.1, p.2) (fault-later (sub_account_rules ms) _ f c.in_ok-sub_account.ensures.0
    (fault-later (tags_rules ms) _ f c.in_ok-tags.ensures.0 (fault-here (purchase_rules ms) _ f c.in_err-purchases.ensures)))

pub returns-then-not-has_only_known : goal.returns-then-not-has_only_known
unfolding billing_rules
returns-then-not-has_only_known c =
    let ms = stated c.args.table.now in
    let f = fault.Field field.Unknown in
    let others : (kind : DiscountKind) → (HasKind ms kind × HasOnly (names_of kind) ms) → ⊥ = λ kind known.
    let same = kind-one ms kind c.args.kind known.0 c.requires in
    let only : HasOnly (names_of c.args.kind) ms = subst (λ k. HasOnly (names_of k) ms) same known.1 in
    let test = c.if-not-has_only_known.ensures.1 only in absurd (cc) in
    fault-later (sub_account_rules ms) _ f c.in_ok-sub_account.ensures.0
    (fault-later (tags_rules ms) _ f c.in_ok-tags.ensures.0
    (fault-later (purchase_rules ms) (unknown_rules ms) f c.in_ok-purchases.ensures.0 (λ _. alone-missing field.Unknown (λ kind. HasKind ms kind × HasOnly (names_of kind) ms) others)))

pub returns : goal.returns
unfolding billing_rules
returns c =
    let ms = stated c.args.table.now in
    let only = c.if-not-has_only_known.ensures.0 refl in
    let known = alone-fits field.Unknown (λ kind. HasKind ms kind × HasOnly (names_of kind) ms) c.args.kind (c.requires, only) in
    let none = none-append (sub_account_rules ms) _ c.in_ok-sub_account.ensures.0
    (none-append (tags_rules ms) _ c.in_ok-tags.ensures.0 (none-append (purchase_rules ms) (unknown_rules ms) c.in_ok-purchases.ensures.0 known)) in (
      none,
      record {
        sub_account = c.in_ok-sub_account.ensures.1.0;
        sub_account_short = c.in_ok-sub_account.ensures.1.1;
        tags = c.in_ok-tags.ensures.1.0;
        tags_few = c.in_ok-tags.ensures.1.1;
        purchases = c.in_ok-purchases.ensures.1.0;
        purchases_few = c.in_ok-purchases.ensures.1.1;
      },
    )
