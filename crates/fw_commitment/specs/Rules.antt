-- The rules of a commitment's table, in the order in which they are checked.
use Rattle.std.specs.Prelude.{◌≡◌, ◌<ℤ◌, ◌≤ℤ◌, ℕ, ℤ, pos, List, [], ◌∷◌, ◌++◌, map, Option, IfSome, codes}
use Rattle.toml.specs.Data.{Members}
use Rattle.fw_charge.specs.Charge.{IsShortText}
use Rattle.fw_charge.specs.Tags.{IsTags}
use Rattle.fw_charge.specs.declared.discount.DiscountKind.TheVariants as kind
use Rattle.fw_terms.specs.Commitment.{PurchaseValue, RateValue, AreSkus, IsRate, AreRates, ArePurchases, most_hours}
use Rattle.fw_toml.specs.Tree.{HasOnly}
use Rattle.fw_commitment.specs.FieldNames.{names_of}
use Rattle.fw_commitment.specs.Fields.{HasText, HasInteger, HasAmount, HasKind, HasHour, HasSkus, HasRates, HasAccount, HasTags, HasPurchases}
use Rattle.fw_commitment.specs.declared.fault.CommitmentField.{CommitmentField}
use Rattle.fw_commitment.specs.declared.fault.CommitmentField.TheVariants as field
use Rattle.fw_commitment.specs.declared.fault.CommitmentFault.{CommitmentFault}
use Rattle.fw_commitment.specs.declared.fault.CommitmentFault.TheVariants as fault

abbrev pub Rule : Type 1
Rule = CommitmentFault × Type 0

-- a field has some value
abbrev pub field_rule : {X : Type 0} → CommitmentField → (X → Type 0) → List Rule
field_rule {X} f Has = (fault.Field f, ¬ ((x : X) × Has x)) ∷ []

-- a field has some value, and has one that is within the field's limits
abbrev pub field_rules : {X : Type 0} → CommitmentField → (X → Type 0) → (X → Type 0) → List Rule
field_rules {X} f Has IsWithin = (fault.Field f, ¬ ((x : X) × Has x)) ∷ (fault.Limit f, ¬ ((x : X) × Has x × IsWithin x)) ∷ []

-- rules that count only where P holds
abbrev pub only_where : Type 0 → List Rule → List Rule
only_where P [] = []
only_where P (r ∷ rules) = (r.0, P × r.1) ∷ only_where P rules

-- the limits of the integers and of the amounts; the whole numbers that they are have the limits of a commitment
abbrev pub IsTermLength : ℤ → Type 0
IsTermLength z = (pos 1 ≤ℤ z) × (z ≤ℤ pos most_hours)

abbrev pub IsAboveZero : ℤ → Type 0
IsAboveZero z = pos 0 <ℤ z

abbrev pub rate_stated : RateValue → List ℕ × ℤ
rate_stated r = (r.sku, pos r.ppm)

abbrev pub rates_stated : List RateValue → List (List ℕ × ℤ)
rates_stated rates = map rate_stated rates

abbrev pub IsRateStated : List ℕ × ℤ → Type 0
IsRateStated stated = (rate : RateValue) × (stated ≡ rate_stated rate) × IsRate rate

abbrev pub AreRatesStated : List (List ℕ × ℤ) → Type 0
AreRatesStated stated = (rates : List RateValue) × (stated ≡ rates_stated rates) × AreRates rates

abbrev pub purchase_stated : PurchaseValue → ℕ × ℤ
purchase_stated p = (p.at, pos p.billed)

abbrev pub purchases_stated : List PurchaseValue → List (ℕ × ℤ)
purchases_stated purchases = map purchase_stated purchases

abbrev pub ArePurchasesStated : List (ℕ × ℤ) → Type 0
ArePurchasesStated stated = (purchases : List PurchaseValue) × (stated ≡ purchases_stated purchases) × ArePurchases purchases

abbrev pub IsAccount : Option (List ℕ) → Type 0
IsAccount account = IfSome account IsShortText

-- ---- field by field

abbrev pub id_rules : Members → List Rule
id_rules ms = field_rules field.Id (HasText ms (codes "id")) IsShortText

abbrev pub kind_rules : Members → List Rule
kind_rules ms = field_rule field.Category (HasKind ms)

abbrev pub start_rules : Members → List Rule
start_rules ms = field_rule field.Start (HasHour ms)

abbrev pub hours_rules : Members → List Rule
hours_rules ms = field_rules field.Hours (HasInteger ms (codes "hours")) IsTermLength

abbrev pub capacity_rules : Members → List Rule
capacity_rules ms = field_rules field.Capacity (HasAmount ms (codes "capacity")) IsAboveZero

abbrev pub unit_rules : Members → List Rule
unit_rules ms = field_rules field.Unit (HasText ms (codes "unit")) IsShortText

abbrev pub skus_rules : Members → List Rule
skus_rules ms = field_rules field.Skus (HasSkus ms) AreSkus

abbrev pub rates_rules : Members → List Rule
rates_rules ms = field_rules field.Rates (HasRates ms) AreRatesStated

abbrev pub sub_account_rules : Members → List Rule
sub_account_rules ms = field_rules field.SubAccount (HasAccount ms) IsAccount

abbrev pub tags_rules : Members → List Rule
tags_rules ms = field_rules field.Tags (HasTags ms) IsTags

abbrev pub purchase_rules : Members → List Rule
purchase_rules ms = field_rules field.Purchase (HasPurchases ms) ArePurchasesStated

-- no name stands there but those of a commitment of its kind
abbrev pub unknown_rules : Members → List Rule
unknown_rules ms = field_rule field.Unknown (λ kind. HasKind ms kind × HasOnly (names_of kind) ms)

-- ---- all of them, in order

unfoldable pub id_and_term_rules : Members → List Rule
id_and_term_rules ms = id_rules ms ++ (kind_rules ms ++ (start_rules ms ++ (hours_rules ms ++ capacity_rules ms)))

unfoldable pub terms_rules : Members → List Rule
terms_rules ms = only_where (HasKind ms kind.Usage) (unit_rules ms ++ skus_rules ms) ++ only_where (HasKind ms kind.Spend) (rates_rules ms)

unfoldable pub billing_rules : Members → List Rule
billing_rules ms = sub_account_rules ms ++ (tags_rules ms ++ (purchase_rules ms ++ unknown_rules ms))

unfoldable pub rules_of : Members → List Rule
rules_of ms = id_and_term_rules ms ++ (terms_rules ms ++ billing_rules ms)
