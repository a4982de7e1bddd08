-- The lines of a text.
use Rattle.std.specs.Prelude.{◌==◌, ◌&&◌, ◌+◌, ℕ, Bool, List, not, count_by, take, drop}
use Rattle.std.specs.List.{position_or_len}

-- how many lines end, where this byte ends them
abbrev pub line_ends_in : ℕ → List ℕ → ℕ
line_ends_in end text = count_by (λ b. b == end) text

-- whether a byte ends no line
abbrev pub is_content : ℕ → Bool
is_content b = not (b == 10) && not (b == 13)

-- how many bytes the empty lines at the start have
abbrev pub blank_len : List ℕ → ℕ
blank_len text = position_or_len is_content text

-- what stands before the record behind some whole records: these, and the empty lines behind them
abbrev pub before_record : List ℕ → ℕ → List ℕ
before_record body end = take (end + blank_len (drop end body)) body
