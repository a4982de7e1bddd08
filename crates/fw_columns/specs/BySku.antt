-- Which SKUs the rows of each hour have, and at which places. Code 0, of the rows that have no SKU, is a code like the others.
use Rattle.std.specs.Prelude.{◌≡◌, ◌==◌, ◌+◌, ◌<◌, ◌≤◌, ℕ, Bool, List, [], ◌∷◌, ◌++◌, length, filter, map, slice_index, slice_index_or, if◌then◌else◌}
use Rattle.std.specs.List.{fold, list_any, slice_range}
use Rattle.fw_charge.specs.Charge.{Charge}
use Rattle.fw_row_table.specs.Codes.{text_code}
use Rattle.fw_row_table.specs.Texts.{names_of}
use Rattle.fw_columns.specs.Hours.{hours_of, places_of_hour, starts_in}
use Rattle.fw_columns.specs.declared.by_sku.SkusByHour.{SkusByHour}

-- the code of each row's SKU, 0 where it has none
abbrev pub sku_codes : List Charge → List ℕ
sku_codes rows = map (λ row. text_code (names_of rows) row.sku) rows

-- whether a number is among numbers
abbrev pub is_among : List ℕ → ℕ → Bool
is_among numbers n = list_any (λ m. m == n) numbers

-- the numbers that were seen, once another was: a new one goes last
unfoldable pub with_number : List ℕ → ℕ → List ℕ
with_number seen n = if is_among seen n then seen else seen ++ n ∷ []

-- each number once, in the order in which it first occurs
unfoldable pub each_once : List ℕ → List ℕ
each_once numbers = fold with_number [] numbers

-- the codes of the SKUs of the rows that start in an hour, each once, in the order in which it first occurs among them; 0 is among them where a row of the hour has no SKU
unfoldable pub skus_of_hour : ℕ → List Charge → List ℕ
skus_of_hour hour rows = each_once (map (λ row. text_code (names_of rows) row.sku) (filter (starts_in hour) rows))

-- the places, from 0, of the rows that start in an hour and whose SKU has a code
unfoldable pub places_of_sku : ℕ → ℕ → List Charge → List ℕ
places_of_sku hour code rows = filter (λ place. slice_index_or (sku_codes rows) place 0 == code) (places_of_hour hour rows)

-- the hour at a place has a run of codes, and each code a list of places
pub record HasSkus (s : SkusByHour) (k : ℕ) : Type 0 where
  pub there : k + 1 < length s.before.items
  pub rising : slice_index s.before.items k ≤ slice_index s.before.items (k + 1)
  pub within : slice_index s.before.items (k + 1) ≤ length s.codes.items
  pub listed : slice_index s.before.items (k + 1) ≤ length s.places

-- the codes of the SKUs of the rows of each hour, and for each code its places
pub record AreSkusByHour (s : SkusByHour) (rows : List Charge) : Type 0 where
  pub run : (k : ℕ) → k < length (hours_of rows) → HasSkus s k
  pub codes : (k : ℕ) → k < length (hours_of rows) → slice_range s.codes.items (slice_index s.before.items k) (slice_index s.before.items (k + 1)) ≡ skus_of_hour (slice_index (hours_of rows) k) rows
  pub places : (k : ℕ) → k < length (hours_of rows) → slice_range s.places (slice_index s.before.items k) (slice_index s.before.items (k + 1)) ≡ map (λ code. places_of_sku (slice_index (hours_of rows) k) code rows) (skus_of_hour (slice_index (hours_of rows) k) rows)
