use Rattle.std.proofs.Common.{◌≡◌, Some, None, refl, subst, codes, map}
use Rattle.toml.specs.View.{view}
use Rattle.fw_toml.specs.Tree.{stated, at, AreIntegers}
use Rattle.fw_toml.proofs.Readings.{of_there, nothing_there, integers_are}
use Rattle.fw_commitment.specs.Fields.{HasRates}
use Rattle.fw_commitment.specs.Rules.{AreRatesStated, rates_stated}
use Rattle.fw_commitment.specs.declared.fault.CommitmentField.TheVariants as field
use Rattle.fw_commitment.proofs.RuleFacts.{field-fits, field-missing, field-over}
use Rattle.fw_commitment.proofs.HasFacts.{rates-one, rates-found}
use Rattle.fw_commitment.proofs.TermFacts.{rate_shown}
use Rattle.fw_commitment.proofs.terms.rates.Goals as goal

pub returns-in_default : goal.returns-in_default
returns-in_default c = λ _.
    let ms = stated c.args.table.now in
    let none : at ms (codes "rates") ≡ None = rw c.name.ensures at c.in_default.ensures in
    field-missing field.Rates (HasRates ms) AreRatesStated (λ rates has. nothing_there (AreIntegers rates) _ none has)

pub returns-in_default-2 : goal.returns-in_default-2
returns-in_default-2 c = λ _.
    let ms = stated c.args.table.now in
    let d = view c.in-Some.value.now in
    let is : at ms (codes "rates") ≡ Some d = rw c.name.ensures at c.in-Some.ensures in
    let not = rw c.in_default-2.is at c.in_ok-stated.ensures in
    field-missing field.Rates (HasRates ms) AreRatesStated (λ rates has. not (integers_are d rates (of_there (AreIntegers rates) _ d is has)))

pub returns-in-Some-3 : goal.returns-in-Some-3
returns-in-Some-3 c =
    let ms = stated c.args.table.now in
    let d = view c.in-Some.value.now in
    let is : at ms (codes "rates") ≡ Some d = rw c.name.ensures at c.in-Some.ensures in
    let are = rw c.in-Some-2.is at c.in_ok-stated.ensures in
    let made = rw c.in-Some-3.is at c.in_ok-rates.ensures in
    let rates = c.in-Some-3.rates.items in
    let has : HasRates ms (rates_stated rates) = subst (HasRates ms) made.0 (rates-found (at ms (codes "rates")) d c.in-Some-2.stated.items c.deref.result.now is are.0 c.deref.ensures.value) in
    (field-fits field.Rates (HasRates ms) AreRatesStated (rates_stated rates) has (rates, refl, made.1), (has, made.1))

pub returns : goal.returns
returns c = λ _.
    let ms = stated c.args.table.now in
    let d = view c.in-Some.value.now in
    let is : at ms (codes "rates") ≡ Some d = rw c.name.ensures at c.in-Some.ensures in
    let are = rw c.in-Some-2.is at c.in_ok-stated.ensures in
    let not = rw c.in-None.is at c.in_ok-rates.ensures in
    let found = map rate_shown c.deref.result.now in
    let has : HasRates ms found = rates-found (at ms (codes "rates")) d c.in-Some-2.stated.items c.deref.result.now is are.0 c.deref.ensures.value in
    field-over field.Rates (HasRates ms) AreRatesStated found has (λ rates other few. not (subst AreRatesStated (rates-one (at ms (codes "rates")) rates found other has) few))
