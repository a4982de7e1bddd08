-- How each field reads.
use Rattle.std.specs.Prelude.{ℕ, zero, suc, List, Option, Some, None, option_map, ℤ}
use Rattle.std.specs.Int.{w64}
use Rattle.fw_bytes.specs.Reading.{Reading, number_at, signed64_at, text_at, checked, both, seen, list_at}
use Rattle.fw_charge.specs.Tags.{TagText, most_tags}
use Rattle.fw_charge.specs.Spelling.{is_nanos, is_second, is_short, is_tag_text}

-- what a code stands for that may be null: 0 is null
abbrev pub null_or : {A : Type 0} → (ℕ → Option A) → ℕ → Option (Option A)
null_or meaning zero = Some None
null_or meaning (suc b) = option_map (λ x. Some x) (meaning (suc b))

-- ---- fields, each with its range

unfoldable pub nanos_at : Reading ℤ
nanos_at = checked is_nanos signed64_at

unfoldable pub second_at : Reading ℕ
second_at = checked is_second (number_at w64)

unfoldable pub short_text_at : Reading (List ℕ)
short_text_at = checked is_short text_at

unfoldable pub tag_text_at : Reading (List ℕ)
tag_text_at = checked is_tag_text text_at

abbrev pub tag_from : List ℕ × List ℕ → TagText
tag_from t = record { key = t.0; value = t.1 }

unfoldable pub tag_at : Reading TagText
tag_at = seen tag_from (both tag_text_at tag_text_at)

unfoldable pub tags_at : Reading (List TagText)
tags_at = list_at 0 most_tags tag_at
