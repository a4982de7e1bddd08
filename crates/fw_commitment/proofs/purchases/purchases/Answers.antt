use Rattle.std.proofs.Common.{◌≡◌, Some, None, refl, subst, codes}
use Rattle.toml.specs.View.{view}
use Rattle.fw_toml.specs.Tree.{stated, at}
use Rattle.fw_toml.proofs.Readings.{nothing_there}
use Rattle.fw_commitment.specs.Fields.{HasPurchases}
use Rattle.fw_commitment.specs.Rules.{ArePurchasesStated, purchases_stated}
use Rattle.fw_commitment.specs.declared.fault.CommitmentField.TheVariants as field
use Rattle.fw_commitment.proofs.RuleFacts.{field-fits, field-missing, field-over}
use Rattle.fw_commitment.proofs.HasFacts.{ArePaymentsOf, payments-one, payments-none, payments-not, payments-found}
use Rattle.fw_commitment.proofs.purchases.purchases.Goals as goal

pub returns-in_default : goal.returns-in_default
returns-in_default c = λ _.
    let ms = stated c.args.table.now in
    let none : at ms (codes "purchase") ≡ None = rw c.name.ensures at c.in_default.ensures in
    field-missing field.Purchase (HasPurchases ms) ArePurchasesStated (λ payments has. nothing_there (ArePaymentsOf payments) _ none has)

pub returns-in_default-2 : goal.returns-in_default-2
returns-in_default-2 c = λ _.
    let ms = stated c.args.table.now in
    let d = view c.in-Some.value.now in
    let is : at ms (codes "purchase") ≡ Some d = rw c.name.ensures at c.in-Some.ensures in
    let not = rw c.in_default-2.is at c.in_ok-tables.ensures in
    field-missing field.Purchase (HasPurchases ms) ArePurchasesStated (payments-none (at ms (codes "purchase")) d is not)

pub returns-in_default-3 : goal.returns-in_default-3
returns-in_default-3 c = λ _.
    let ms = stated c.args.table.now in
    let d = view c.in-Some.value.now in
    let is : at ms (codes "purchase") ≡ Some d = rw c.name.ensures at c.in-Some.ensures in
    let are = rw c.in-Some-2.is at c.in_ok-tables.ensures in
    let not = rw c.in_default-3.is at c.in_ok-payments.ensures in
    field-missing field.Purchase (HasPurchases ms) ArePurchasesStated
    (payments-not (λ t. stated t.now) (at ms (codes "purchase")) d c.in-Some-2.tables.items c.deref.result.now is are c.deref.ensures.value not)

pub returns-in-Some-4 : goal.returns-in-Some-4
returns-in-Some-4 c =
    let ms = stated c.args.table.now in
    let d = view c.in-Some.value.now in
    let is : at ms (codes "purchase") ≡ Some d = rw c.name.ensures at c.in-Some.ensures in
    let are = rw c.in-Some-2.is at c.in_ok-tables.ensures in
    let paid = rw c.in-Some-3.is at c.in_ok-payments.ensures in
    let made = rw c.in-Some-4.is at c.in_ok-purchases.ensures in
    let purchases = c.in-Some-4.purchases.items in
    let found = payments-found (λ t. stated t.now) (at ms (codes "purchase")) d c.in-Some-2.tables.items c.deref.result.now c.in-Some-3.payments.items c.deref-2.result.now is are c.deref.ensures.value paid.0 c.deref-2.ensures.value in
    let has : HasPurchases ms (purchases_stated purchases) = subst (HasPurchases ms) made.0 found in
    (field-fits field.Purchase (HasPurchases ms) ArePurchasesStated (purchases_stated purchases) has (purchases, refl, made.1), (has, made.1))

pub returns : goal.returns
returns c = λ _.
    let ms = stated c.args.table.now in
    let d = view c.in-Some.value.now in
    let is : at ms (codes "purchase") ≡ Some d = rw c.name.ensures at c.in-Some.ensures in
    let are = rw c.in-Some-2.is at c.in_ok-tables.ensures in
    let paid = rw c.in-Some-3.is at c.in_ok-payments.ensures in
    let not = rw c.in-None.is at c.in_ok-purchases.ensures in
    let found = c.deref-2.result.now in
    let has : HasPurchases ms found = payments-found (λ t. stated t.now) (at ms (codes "purchase")) d c.in-Some-2.tables.items c.deref.result.now c.in-Some-3.payments.items c.deref-2.result.now is are c.deref.ensures.value paid.0 c.deref-2.ensures.value in
    field-over field.Purchase (HasPurchases ms) ArePurchasesStated found has (λ payments other few. not (subst ArePurchasesStated (payments-one (at ms (codes "purchase")) payments found other has) few))
