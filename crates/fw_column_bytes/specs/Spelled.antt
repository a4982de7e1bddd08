-- Lists of places whose bytes are known. The private functions of the crate cite it.
use Rattle.std.specs.Prelude.{◌≡◌, ◌<◌, ◌≤◌, ◌++◌, ◌∷◌, ℕ, List, [], length, slice_index_or, Ok}
use Rattle.fw_row_table.specs.Names.{Text}
use Rattle.fw_row_table.specs.Texts.{with_texts}
use Rattle.fw_column_bytes.specs.Reading.{tag_places_at}

-- the bytes of the first of the lists of rows: such bytes read as this list, whatever follows them
pub record AreSpelled (names : List Text) (lists spelled : List (List ℕ)) : Type 0 where
  pub few : length spelled ≤ length (with_texts [] lists)
  pub each : (k : ℕ) → k < length spelled → (more : List ℕ) → tag_places_at names (slice_index_or spelled k [] ++ more) ≡ Ok (slice_index_or (with_texts [] lists) k [], more)

-- what is read next is a list, which the lists of rows have behind them
pub record ReadsNext (names : List Text) (before now : List (List ℕ)) (bytes after : List ℕ) : Type 0 where
  pub list : List ℕ
  pub more : now ≡ before ++ list ∷ []
  pub read : tag_places_at names bytes ≡ Ok (list, after)
