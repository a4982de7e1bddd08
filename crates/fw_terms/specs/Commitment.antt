-- A commitment as plain values.
use Rattle.std.specs.Prelude.{◌<◌, ◌≤◌, ◌+◌, ℕ, Bool, ◌&&◌, nat_lt, nat_le, List, [], ◌∷◌, ◌++◌, Option, length, map, All, sum_by, IfSome}
use Rattle.fw_money.specs.Amount.{most_nanos}
use Rattle.fw_charge.specs.Tags.{TagText, IsTags}
use Rattle.fw_charge.specs.Charge.{IsShortText, last_second, last_hour}
use Rattle.fw_charge.specs.declared.discount.DiscountKind.{DiscountKind}
use Rattle.fw_charge.specs.declared.discount.DiscountKind.TheVariants as kind
use Rattle.fw_terms.specs.Texts.{IsRising}

-- a payment for the commitment: when, in seconds since 1970, and how much, in nanos
pub record PurchaseValue : Type 0 where
  pub at : ℕ
  pub billed : ℕ

-- how much of a row's cost counts against the capacity, in parts per million, where the row has this SKU
pub record RateValue : Type 0 where
  pub sku : List ℕ
  pub ppm : ℕ

-- what is committed to: a quantity of a unit each hour, for rows of these SKUs; or a cost each hour, for rows of the SKUs that have a rate
pub data TermsValue : Type 0 where
  usage : List ℕ → List (List ℕ) → TermsValue
  spend : List RateValue → TermsValue

-- the start is an hour since 1970, and the capacity that of each hour, in nanos of the unit or of the currency
pub record CommitmentValue : Type 0 where
  pub id : List ℕ
  pub terms : TermsValue
  pub sub_account : Option (List ℕ)
  pub tags : List TagText
  pub start : ℕ
  pub hours : ℕ
  pub capacity : ℕ
  pub purchases : List PurchaseValue

-- which of the two kinds the terms are of
abbrev pub kind_of : TermsValue → DiscountKind
kind_of (usage unit skus) = kind.Usage
kind_of (spend rates) = kind.Spend

-- what all the purchases cost together, in nanos
unfoldable pub cost_of : List PurchaseValue → ℕ
cost_of purchases = sum_by (λ p. p.billed) purchases

abbrev pub most_skus : ℕ
most_skus = 256

abbrev pub most_ppm : ℕ
most_ppm = 1000000

abbrev pub most_purchases : ℕ
most_purchases = 64

abbrev pub most_hours : ℕ
most_hours = 26304

-- 1 to 256 names, in rising order
pub record AreSkus (skus : List (List ℕ)) : Type 0 where
  pub some : 0 < length skus
  pub few : length skus ≤ most_skus
  pub named : All IsShortText skus
  pub rising : IsRising skus

pub record IsRate (r : RateValue) : Type 0 where
  pub sku : IsShortText r.sku
  pub some : 0 < r.ppm
  pub most : r.ppm ≤ most_ppm

-- 1 to 256 rates, in rising order of their SKUs
pub record AreRates (rates : List RateValue) : Type 0 where
  pub some : 0 < length rates
  pub few : length rates ≤ most_skus
  pub each : All IsRate rates
  pub rising : IsRising (map (λ r. r.sku) rates)

abbrev pub IsTerms : TermsValue → Type 0
IsTerms (usage unit skus) = IsShortText unit × AreSkus skus
IsTerms (spend rates) = AreRates rates

-- 1 to 64 purchases up to the end of the year 9999, which together cost at most 10^17 nanos
pub record ArePurchases (purchases : List PurchaseValue) : Type 0 where
  pub some : 0 < length purchases
  pub few : length purchases ≤ most_purchases
  pub dated : All (λ p. p.at ≤ last_second) purchases
  pub cost : cost_of purchases ≤ most_nanos

-- what each commitment keeps
pub record IsCommitment (c : CommitmentValue) : Type 0 where
  pub id : IsShortText c.id
  pub terms : IsTerms c.terms
  pub sub_account : IfSome c.sub_account IsShortText
  pub tags : IsTags c.tags
  pub start : c.start ≤ last_hour
  pub hours_some : 0 < c.hours
  pub hours_most : c.hours ≤ most_hours
  pub capacity_some : 0 < c.capacity
  pub capacity_most : c.capacity ≤ most_nanos
  pub purchases : ArePurchases c.purchases

-- ---- one purchase more

-- it has fewer than 64 purchases, and all of them with this one cost at most 10^17 nanos
abbrev pub takes_purchase : CommitmentValue → PurchaseValue → Bool
takes_purchase c p = nat_lt (length c.purchases) most_purchases && nat_le (cost_of c.purchases + p.billed) most_nanos

-- the commitment with this purchase behind its others
abbrev pub with_purchase : CommitmentValue → PurchaseValue → CommitmentValue
with_purchase c p = record c { purchases = c.purchases ++ p ∷ [] }
