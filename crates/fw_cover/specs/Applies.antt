-- Which rows a commitment applies to, and at which rate.
use Rattle.std.specs.Prelude.{ℕ, ◌+◌, ◌&&◌, nat_lt, nat_le, Bool, true, false, List, map, find, Option, Some, None, if◌then◌else◌, option_map, option_and_then}
use Rattle.std.specs.Str.{bytes_eq}
use Rattle.fw_charge.specs.Charge.{Charge}
use Rattle.fw_terms.specs.Commitment.{CommitmentValue, TermsValue}
use Rattle.fw_terms.specs.Commitment.TermsValue.{usage, spend}
use Rattle.fw_cover.specs.Eligible.{is_eligible, is_of_hour}

-- a commitment runs in the hours of its term
unfoldable pub is_in_term : CommitmentValue → ℕ → Bool
is_in_term c hour = nat_le c.start hour && nat_lt hour (c.start + c.hours)

-- whether an optional text of a row is this one
abbrev pub is_text : List ℕ → Option (List ℕ) → Bool
is_text wanted None = false
is_text wanted (Some text) = bytes_eq text wanted

-- a commitment with a sub-account takes the rows of that one alone
abbrev pub allows : Option (List ℕ) → Option (List ℕ) → Bool
allows None account = true
allows (Some own) account = is_text own account

-- a commitment to a quantity takes rows in its unit alone
abbrev pub has_unit : TermsValue → Option (List ℕ) → Bool
has_unit (usage unit skus) row_unit = is_text unit row_unit
has_unit (spend rates) row_unit = true

-- a SKU that terms list, and its rate, where they are to a cost
pub record Listing : Type 0 where
  pub sku : List ℕ
  pub rate : Option ℕ

abbrev pub listings : TermsValue → List Listing
listings (usage unit skus) = map (λ sku. record { sku = sku; rate = None }) skus
listings (spend rates) = map (λ r. record { sku = r.sku; rate = Some r.ppm }) rates

-- whether terms list a SKU, and at which rate
abbrev pub rate_for : TermsValue → List ℕ → Option (Option ℕ)
rate_for terms sku = option_map (λ listing. listing.rate) (find (λ listing. bytes_eq listing.sku sku) (listings terms))

-- whether a commitment runs in an hour and takes rows of this one's sub-account and unit
unfoldable pub fits : CommitmentValue → ℕ → Charge → Bool
fits c hour row = is_in_term c hour && allows c.sub_account row.sub_account && has_unit c.terms row.unit

-- whether commitments may cover a row in an hour
abbrev pub is_open : ℕ → Charge → Bool
is_open hour row = is_eligible row && is_of_hour hour row

-- how a commitment applies to a row of an hour: not at all, to its quantity, or to its cost at a rate
unfoldable pub applied : CommitmentValue → ℕ → Charge → Option (Option ℕ)
applied c hour row = if is_open hour row && fits c hour row then option_and_then (rate_for c.terms) row.sku else None
