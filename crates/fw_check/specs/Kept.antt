-- The values of columns that are kept as tags.
use Rattle.std.specs.Prelude.{ℕ, List, [], ◌∷◌, string_bytes}
use Rattle.std.specs.Str.{bytes_eq}
use Rattle.fw_charge.specs.Tags.{TagText, group_of}
use Rattle.fw_rows.specs.Keeps.{KeepText}
use Rattle.fw_check.specs.Counts.{counted, text_counts}
use Rattle.fw_check.specs.declared.kept.KeptColumn.{KeptColumn}

-- a kept column, the key of its tag, and how many rows have each value of the tag, in the order in which the values first came
pub record KeptValue : Type 0 where
  pub column : List ℕ
  pub key : List ℕ
  pub values : List (List ℕ × ℕ)

abbrev pub kept_value : KeptColumn → KeptValue
kept_value k = record { column = string_bytes k.column; key = string_bytes k.key; values = text_counts k.values.entries }

-- a column of which no row was seen
abbrev pub nothing_kept : KeepText → KeptValue
nothing_kept keep = record { column = keep.column; key = keep.key; values = [] }

-- values after a row that has this one; the empty text is none
unfoldable pub with_text : List ℕ → List (List ℕ × ℕ) → List (List ℕ × ℕ)
with_text [] values = values
with_text (b ∷ text) values = counted bytes_eq (b ∷ text) 1 values

-- a column after a row with these tags
abbrev pub with_tags : List TagText → KeptValue → KeptValue
with_tags tags kept = record kept { values = with_text (group_of kept.key tags) kept.values }
