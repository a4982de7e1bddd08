-- A roster as a value: commitments, and the hours in which they are asked.
use Rattle.std.specs.Prelude.{◌≡◌, ◌<◌, ◌≤◌, ◌+◌, ◌&&◌, ℕ, Bool, false, List, [], All, Vec, filter, is_some, length, map, nat_lt}
use Rattle.std.specs.declared.alloc.Global.{Global}
use Rattle.std.specs.List.{list_any}
use Rattle.std.specs.List.Sorted.{IsSortedBy}
use Rattle.std.specs.Option.{option_map_or}
use Rattle.fw_charge.specs.Charge.{Charge}
use Rattle.fw_terms.specs.Commitment.{CommitmentValue, IsCommitment}
use Rattle.fw_cover.specs.Applies.{rate_for}
use Rattle.fw_cover.specs.Hour.{capacities_of}
use Rattle.fw_cover.specs.Order.{commitments_in_order}
use Rattle.fw_cover.specs.Offers.{OfferValue, offer_before, index_of, offered, table_of, table_view}
use Rattle.fw_cover.specs.declared.offers.Offer.{Offer}

-- commitments, and the hours from `from` up to, and not including, `to`
pub record RosterValue : Type 0 where
  pub commitments : List CommitmentValue
  pub from : ℕ
  pub to : ℕ

-- the hour is one of the roster's
pub record HasHour (r : RosterValue) (hour : ℕ) : Type 0 where
  pub since : r.from ≤ hour
  pub until : hour < r.to

-- whether a commitment runs in one of the hours from `from` up to, and not including, `to`
unfoldable pub runs_between : ℕ → ℕ → CommitmentValue → Bool
runs_between from to c = nat_lt c.start to && nat_lt from (c.start + c.hours)

-- whether some commitment that runs in one of the roster's hours lists a SKU
unfoldable pub lists_sku : RosterValue → List ℕ → Bool
lists_sku r sku = list_any (λ c. runs_between r.from r.to c && is_some (rate_for c.terms sku)) r.commitments

-- whether one lists the SKU of a row; none does where the row has no SKU
abbrev pub lists_row : RosterValue → Charge → Bool
lists_row r row = option_map_or (lists_sku r) row.sku false

-- the commitments that run in one of the roster's hours, in their order, each beside its place in the list of all
unfoldable pub roster_order : RosterValue → List (ℕ × CommitmentValue)
roster_order r = filter (λ c. runs_between r.from r.to c.1) (commitments_in_order r.commitments)

-- what the commitments that run in one of the roster's hours list of a SKU: each its place in their order, and its rate
unfoldable pub offers_in : RosterValue → List ℕ → List OfferValue
offers_in r sku = offered sku (index_of (roster_order r))

-- what they list of the SKU of a row; nothing where it has none
abbrev pub offers_of_row : RosterValue → Charge → List OfferValue
offers_of_row r row = option_map_or (offers_in r) row.sku []

-- what a roster's fields keep: the commitments keep their limits, the places are those of the ones that run in the hours, ks are the
-- capacities of all, and the table has what those that run list
pub record IsRoster (r : RosterValue) (places ks : List ℕ) (table : List (Vec Offer Global)) : Type 0 where
  pub valid : All IsCommitment r.commitments
  pub order : places ≡ map (λ c. c.0) (roster_order r)
  pub capacities : ks ≡ capacities_of r.commitments
  pub some : 0 < length table
  pub sorted : All (IsSortedBy offer_before) (table_view table)
  pub table_is : table_view table ≡ table_of (length table) (index_of (roster_order r))
