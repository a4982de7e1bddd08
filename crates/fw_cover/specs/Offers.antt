-- The SKUs that the commitments of an order list, put in the order of their bytes, and in lists by a number of the SKU. The private functions that
-- look a row's SKU up cite it.
use Rattle.std.specs.Prelude.{ℕ, ◌+◌, ◌*◌, ◌%◌, ◌==◌, Bool, List, [], Option, Some, None, Vec, if◌then◌else◌, fold, length, map, filter, slice_index_or}
use Rattle.std.specs.declared.alloc.Global.{Global}
use Rattle.std.specs.Option.{option_map_or}
use Rattle.std.specs.List.{enumerate_from, flat_map, filter_map, range_with_len}
use Rattle.std.specs.declared.cmp.Ordering.{Ordering}
use Rattle.std.specs.Ordering.{is_lt, nat_cmp}
use Rattle.std.specs.Cmp.Lexicographic.{slice_cmp}
use Rattle.std.specs.Str.{bytes_eq}
use Rattle.fw_charge.specs.Charge.{Charge}
use Rattle.fw_terms.specs.Commitment.{CommitmentValue}
use Rattle.fw_cover.specs.Applies.{Listing, listings, fits, is_open}
use Rattle.fw_cover.specs.Order.{in_order}
use Rattle.fw_cover.specs.PlacedView.{placed_of}
use Rattle.fw_cover.specs.declared.offers.Offer.{Offer}
use Rattle.fw_cover.specs.declared.offers.SkuOffers.{SkuOffers}
use Rattle.fw_cover.specs.Ranked.{RankedPair}

-- a SKU, its rate, and the commitment that lists it, beside its places in the order and in the list
pub record OfferValue : Type 0 where
  pub sku : List ℕ
  pub rate : Option ℕ
  pub standing : ℕ × (ℕ × CommitmentValue)

abbrev pub offer_of : Offer → OfferValue
offer_of o = record { sku = o.sku.now; rate = o.rate; standing = (o.rank, placed_of o.placed) }

abbrev pub offer_for : ℕ × (ℕ × CommitmentValue) → Listing → OfferValue
offer_for c listing = record { sku = listing.sku; rate = listing.rate; standing = c }

abbrev pub offers_by : ℕ × (ℕ × CommitmentValue) → List OfferValue
offers_by c = map (offer_for c) (listings c.1.1.terms)

-- the offers of the commitments in turn
abbrev pub offers_of : List (ℕ × CommitmentValue) → List OfferValue
offers_of cs = flat_map offers_by (enumerate_from 0 cs)

-- by the bytes of the SKU; offers of one SKU keep the order of their commitments
abbrev pub offer_before : OfferValue → OfferValue → Bool
offer_before a b = is_lt (slice_cmp nat_cmp a.sku b.sku)

unfoldable pub index_of : List (ℕ × CommitmentValue) → List OfferValue
index_of cs = in_order offer_before (offers_of cs)

-- the offers of a SKU
abbrev pub offered : List ℕ → List OfferValue → List OfferValue
offered sku offers = filter (λ o. bytes_eq o.sku sku) offers

-- a number of a text, below 2^32
unfoldable pub text_number : List ℕ → ℕ
text_number bytes = fold (λ number byte. (number * 31 + byte) % 4294967296) 0 bytes

-- which of so many lists has the offers of a SKU
abbrev pub list_for : ℕ → List ℕ → ℕ
list_for lists sku = text_number sku % lists

-- the offers in so many lists, each in the one of its SKU
unfoldable pub of_list : ℕ → List OfferValue → ℕ → List OfferValue
of_list lists offers list = filter (λ o. list_for lists o.sku == list) offers

abbrev pub table_of : ℕ → List OfferValue → List (List OfferValue)
table_of lists offers = map (of_list lists offers) (range_with_len 0 lists)

abbrev pub table_view : List (Vec Offer Global) → List (List OfferValue)
table_view table = map (λ list. map offer_of list.items) table

-- the offers of a SKU in its list
abbrev pub offered_in : List ℕ → List (List OfferValue) → List OfferValue
offered_in sku table = offered sku (slice_index_or table (list_for (length table) sku) [])

-- what is found of a SKU
abbrev pub sku_offers : SkuOffers → List OfferValue
sku_offers s = map offer_of s.offers.now

-- the offers of a row's SKU; none where it has no SKU
abbrev pub row_offers : List (List OfferValue) → Charge → List OfferValue
row_offers table row = option_map_or (λ sku. offered_in sku table) row.sku []

-- how an offer's SKU stands to one in the order of bytes
abbrev pub standing_to : List ℕ → Offer → Ordering
standing_to sku o = slice_cmp nat_cmp o.sku.now sku

-- the pair that an offer makes with a row that commitments may cover in the hour
abbrev pub pair_by : ℕ → ℕ × Charge → OfferValue → Option RankedPair
pair_by hour row o =
    if fits o.standing.1.1 hour row.1 then Some (record { rank = o.standing.0; pair = record { commitment = o.standing.1.0; row = row.0; rate = o.rate } }) else None

-- the pairs of one row, by the offers of its SKU
unfoldable pub pairs_with : ℕ → List (List OfferValue) → ℕ × Charge → List RankedPair
pairs_with hour table row = if is_open hour row.1 then option_map_or (λ sku. filter_map (pair_by hour row) (offered_in sku table)) row.1.sku [] else []
