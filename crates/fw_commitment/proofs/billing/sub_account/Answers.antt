use Rattle.std.proofs.Common.{◌≡◌, Some, None, ap, sym, ◌∙◌, subst, codes, string_bytes}
use Rattle.toml.specs.Data.{string}
use Rattle.toml.specs.View.{view}
use Rattle.fw_toml.specs.Tree.{stated, at}
use Rattle.fw_commitment.specs.Fields.{HasAccount}
use Rattle.fw_commitment.specs.Rules.{IsAccount}
use Rattle.fw_commitment.specs.declared.fault.CommitmentField.TheVariants as field
use Rattle.fw_commitment.proofs.RuleFacts.{field-fits, field-missing, field-over}
use Rattle.fw_commitment.proofs.HasFacts.{account-one, account-none}
use Rattle.fw_commitment.proofs.billing.sub_account.Goals as goal

pub returns-in_default : goal.returns-in_default
returns-in_default c =
    let ms = stated c.args.table.now in
    let has : HasAccount ms None = rw c.name.ensures at c.in_default.ensures in
    (field-fits field.SubAccount (HasAccount ms) IsAccount None has tt, (has, tt))

pub returns-in_default-as_text : goal.returns-in_default-as_text
returns-in_default-as_text c = λ _.
    let ms = stated c.args.table.now in
    let is : at ms (codes "sub_account") ≡ Some (view c.in-Some.value.now) = rw c.name.ensures at c.in-Some.ensures in
    field-missing field.SubAccount (HasAccount ms) IsAccount (account-none (at ms (codes "sub_account")) (view c.in-Some.value.now) is c.in_default-as_text.ensures)

pub returns-then-not-is_short_text : goal.returns-then-not-is_short_text
returns-then-not-is_short_text c = λ _.
    let ms = stated c.args.table.now in
    let t = c.in-Some-as_text.text.now in
    let is : at ms (codes "sub_account") ≡ Some (view c.in-Some.value.now) = rw c.name.ensures at c.in-Some.ensures in
    let has : HasAccount ms (Some t) = is ∙ ap Some c.in-Some-as_text.ensures in
    let long : ¬ IsAccount (Some t) = λ short. let same = c.if-not-is_short_text.ensures.1 short in absurd (cc) in
    field-over field.SubAccount (HasAccount ms) IsAccount (Some t) has (λ a other short. long (subst IsAccount (account-one (at ms (codes "sub_account")) a (Some t) other has) short))

pub returns : goal.returns
returns c =
    let ms = stated c.args.table.now in
    let s = string_bytes c.in_ok-from_str.field-0 in
    let copied = c.in_ok-from_str.ensures.ok in
    let is : at ms (codes "sub_account") ≡ Some (view c.in-Some.value.now) = rw c.name.ensures at c.in-Some.ensures in
    let has : HasAccount ms (Some s) = is ∙ (ap Some c.in-Some-as_text.ensures ∙ ap (λ t. Some (string t)) (sym copied)) in
    let short : IsAccount (Some s) = rw copied (c.is_short_text.ensures.0 c.if-not-is_short_text.false) in
    (field-fits field.SubAccount (HasAccount ms) IsAccount (Some s) has short, (has, short))
