-- What is known of where the keys of tags stand in counts, while the rows of columns are counted. The private functions that count them cite it.
use Rattle.std.specs.Prelude.{◌≡◌, ℕ, List, map, length, position, slice_index_or, Option, Some, None}
use Rattle.std.specs.Str.{bytes_eq}
use Rattle.fw_charge.specs.Charge.{Charge}
use Rattle.fw_row_table.specs.Table.{text_at}
use Rattle.fw_check.specs.Seen.{Seen, with_counts}

-- the place of a key in counts
abbrev pub key_place : List ℕ → List (List ℕ × ℕ) → Option ℕ
key_place key counts = position (bytes_eq key) (map (λ c. c.0) counts)

-- of each name the place of its key in counts, if it is known
pub record AreKnown (names : List (List ℕ)) (known : List (Option ℕ)) (counts : List (List ℕ × ℕ)) : Type 0 where
  pub size : length known ≡ length names
  pub each : (name place : ℕ) → slice_index_or known name None ≡ Some place → key_place (text_at names name) counts ≡ Some place

-- with one more row, but for its tags and its values in kept columns
abbrev pub with_sums : Charge → Seen → Seen
with_sums row seen = record (with_counts row seen) { tags = seen.tags }
