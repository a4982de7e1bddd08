-- What the commitments of a roster list of the SKUs of rows, by the codes of the SKUs. The private functions of the report cite it.
use Rattle.std.specs.Prelude.{◌≡◌, ◌==◌, ◌<◌, ℕ, zero, suc, Bool, false, not, List, [], Option, Some, None, IfSome, length, map, slice_index, slice_index_or}
use Rattle.fw_charge.specs.Charge.{Charge}
use Rattle.fw_columns.specs.BySku.{sku_codes}
use Rattle.fw_row_table.specs.Names.{Text}
use Rattle.fw_row_table.specs.Texts.{names_of}
use Rattle.fw_cover.specs.Offers.{sku_offers}
use Rattle.fw_cover.specs.RosterView.{RosterValue, offers_in}
use Rattle.fw_cover.specs.declared.offers.SkuOffers.{SkuOffers}
use Rattle.fw_sums.specs.declared.hours.RowPlace.{RowPlace}
use Rattle.fw_sums.specs.declared.listed.Listed.{Listed}

-- what the commitments list of the SKU with a code, as it was found: nothing where the code is that of no SKU
unfoldable pub AreOffersOf : RosterValue → List Text → ℕ → SkuOffers → Type 0
AreOffersOf r names zero found = sku_offers found ≡ []
AreOffersOf r names (suc place) found = (place < length names) × (sku_offers found ≡ offers_in r (slice_index_or names place []))

-- so of each code of which something was found
abbrev pub AreOffersByCode : RosterValue → List Text → List (Option SkuOffers) → Type 0
AreOffersByCode r names found = (code : ℕ) → IfSome (slice_index_or found code None) (AreOffersOf r names code)

-- what was found of each segment's codes
abbrev pub found_of : Listed → List (List (Option SkuOffers))
found_of listed = map (λ found. found.items) listed.by_code.items

-- so of each segment
unfoldable pub AreListed : List (List Charge) → RosterValue → Listed → Type 0
AreListed segments r listed = (segment : ℕ) → AreOffersByCode r (names_of (slice_index_or segments segment [])) (slice_index_or (found_of listed) segment [])

-- what was found of a segment's code
abbrev pub found_at : Listed → ℕ → ℕ → Option SkuOffers
found_at listed segment code = slice_index_or (slice_index_or (found_of listed) segment []) code None

-- whether it is that none lists it
abbrev pub is_nothing : Option SkuOffers → Bool
is_nothing None = false
is_nothing (Some found) = length (sku_offers found) == 0

-- whether a segment's code is marked: no commitment lists its SKU
abbrev pub is_marked_code : Listed → ℕ → ℕ → Bool
is_marked_code listed segment code = is_nothing (found_at listed segment code)

-- of these codes of a segment all are marked but the one at a place
pub record IsOnly (listed : Listed) (segment : ℕ) (codes : List ℕ) (which : ℕ) : Type 0 where
  pub there : which < length codes
  pub each : (k : ℕ) → k < length codes → is_marked_code listed segment (slice_index codes k) ≡ not (k == which)

-- whether the code of the SKU of the row at a place isn't marked
abbrev pub may_be_listed : Listed → List (List Charge) → RowPlace → Bool
may_be_listed listed segments p = not (is_marked_code listed p.segment (slice_index_or (sku_codes (slice_index_or segments p.segment [])) p.place 0))
