use Rattle.std.proofs.Common.{◌≡◌, Some, None, sym, subst, codes, map, string_bytes}
use Rattle.toml.specs.View.{view}
use Rattle.fw_toml.specs.Tree.{stated, at}
use Rattle.fw_toml.proofs.Readings.{nothing_there}
use Rattle.fw_terms.specs.Commitment.{AreSkus}
use Rattle.fw_commitment.specs.Fields.{HasSkus}
use Rattle.fw_commitment.specs.declared.fault.CommitmentField.TheVariants as field
use Rattle.fw_commitment.proofs.RuleFacts.{field-fits, field-missing, field-over}
use Rattle.fw_commitment.proofs.HasFacts.{AreSkusOf, skus-one, skus-none, skus-twice, skus-found}
use Rattle.fw_commitment.proofs.terms.skus.Goals as goal

pub returns-in_default : goal.returns-in_default
returns-in_default c = λ _.
    let ms = stated c.args.table.now in
    let none : at ms (codes "skus") ≡ None = rw c.name.ensures at c.in_default.ensures in
    field-missing field.Skus (HasSkus ms) AreSkus (λ skus has. nothing_there (AreSkusOf skus) _ none has)

pub returns-in_default-2 : goal.returns-in_default-2
returns-in_default-2 c = λ _.
    let ms = stated c.args.table.now in
    let d = view c.in-Some.value.now in
    let is : at ms (codes "skus") ≡ Some d = rw c.name.ensures at c.in-Some.ensures in
    let not = rw c.in_default-2.is at c.in_ok-found.ensures in
    field-missing field.Skus (HasSkus ms) AreSkus (skus-none (at ms (codes "skus")) d is not)

pub returns-in_default-3 : goal.returns-in_default-3
returns-in_default-3 c = λ _.
    let ms = stated c.args.table.now in
    let d = view c.in-Some.value.now in
    let is : at ms (codes "skus") ≡ Some d = rw c.name.ensures at c.in-Some.ensures in
    let are = rw c.in-Some-2.is at c.in_ok-found.ensures in
    let twice = rw c.in_default-3.is at c.in_ok-ordered.ensures in
    field-missing field.Skus (HasSkus ms) AreSkus (skus-twice (at ms (codes "skus")) d c.in-Some-2.found.items c.deref.result.now is are c.deref.ensures.value twice)

pub returns-in-Some-4 : goal.returns-in-Some-4
returns-in-Some-4 c =
    let ms = stated c.args.table.now in
    let d = view c.in-Some.value.now in
    let is : at ms (codes "skus") ≡ Some d = rw c.name.ensures at c.in-Some.ensures in
    let are = rw c.in-Some-2.is at c.in_ok-found.ensures in
    let order = rw c.in-Some-3.is at c.in_ok-ordered.ensures in
    let made = rw c.in-Some-4.is at c.in_ok-skus.ensures in
    let skus = map string_bytes c.in-Some-4.skus.items in
    let found = skus-found (at ms (codes "skus")) d c.in-Some-2.found.items c.deref.result.now c.in-Some-3.ordered.items c.deref-2.result.now is are c.deref.ensures.value order.0 order.1 c.deref-2.ensures.value in
    let has : HasSkus ms skus = subst (HasSkus ms) (sym made.0) found in
    let few : AreSkus skus = subst AreSkus (sym made.0) made.1 in
    (field-fits field.Skus (HasSkus ms) AreSkus skus has few, (has, few))

pub returns : goal.returns
returns c = λ _.
    let ms = stated c.args.table.now in
    let d = view c.in-Some.value.now in
    let is : at ms (codes "skus") ≡ Some d = rw c.name.ensures at c.in-Some.ensures in
    let are = rw c.in-Some-2.is at c.in_ok-found.ensures in
    let order = rw c.in-Some-3.is at c.in_ok-ordered.ensures in
    let not = rw c.in-None.is at c.in_ok-skus.ensures in
    let found = map (λ t. t.now) c.deref-2.result.now in
    let has : HasSkus ms found = skus-found (at ms (codes "skus")) d c.in-Some-2.found.items c.deref.result.now c.in-Some-3.ordered.items c.deref-2.result.now is are c.deref.ensures.value order.0 order.1 c.deref-2.ensures.value in
    field-over field.Skus (HasSkus ms) AreSkus found has (λ skus other few. not (subst AreSkus (skus-one (at ms (codes "skus")) skus found other has) few))
