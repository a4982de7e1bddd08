-- Headers that stand again among the records of a text.
use Rattle.std.specs.Prelude.{◌≡◌, ◌⊎◌, ◌<◌, ◌≤◌, ◌+◌, ◌-◌, ◌==◌, ◌&&◌, if◌then◌else◌, not, ℕ, zero, suc, Bool, true, false, Option, Some, None, List, [], ◌∷◌, ◌++◌, take, drop, length, get_or}
use Rattle.std.specs.List.{position_or_len}
use Rattle.std.specs.Str.{bytes_eq}
use Rattle.csv.specs.Machine.{Read, next_record}
use Rattle.csv.specs.Reading.{default_config}
use Rattle.csv.specs.declared.parser.State.{State}
use Rattle.csv.specs.declared.parser.State.TheVariants as st
use Rattle.fw_cut.specs.Cutting.{HasNoEnd}
use Rattle.fw_cut.specs.Records.{Record, IsWhole, all_records, is_content, mark_len}
use Rattle.fw_cut.specs.declared.stopping.Stop.{Stop}

-- the bytes behind the empty lines at the start
unfoldable pub unblanked : List ℕ → List ℕ
unblanked text = drop (position_or_len is_content text) text

-- the bytes behind the byte order mark
unfoldable pub unmarked : List ℕ → List ℕ
unmarked text = drop (mark_len text) text

-- the bytes of a header itself: without its byte order mark, the empty lines before it and the byte that ends it
unfoldable pub head_of : List ℕ → List ℕ
head_of header = take (length (unblanked (unmarked header)) - 1) (unblanked (unmarked header))

-- whether a text is this line, or the line and one byte that ends it
unfoldable pub is_line : List ℕ → List ℕ → Bool
is_line line text =
    if length text == length line then bytes_eq text line
    else if length text == length line + 1 then bytes_eq (take (length line) text) line && not (is_content (get_or text (length line) 0))
    else false

-- whether the bytes of a record are the header again. Empty lines and a byte order mark may stand before it.
unfoldable pub is_again : List ℕ → List ℕ → Bool
is_again head bytes = is_line head (unmarked (unblanked bytes))

-- the next record, if it isn't the header again, and then the records after it
abbrev pub but_next : List ℕ → List ℕ → (State → List ℕ → List Record) → Option Read → List Record
but_next head text more None = []
but_next head text more (Some p) = if is_again head (take (length text - length p.2) text) then more p.1 p.2 else p.0 ∷ more p.1 p.2

-- the records of a text that aren't the header again, of the next n, from a state
unfoldable pub but_from : List ℕ → ℕ → State → List ℕ → List Record
but_from head zero s text = []
but_from head (suc n) s text = but_next head text (but_from head n) (next_record default_config s [] [] text)

-- The records of a text behind its header: those that aren't the header again, in order.
unfoldable pub records_but : List ℕ → List ℕ → List Record
records_but head text = but_from head (length text + 1) st.StartRecord text

-- no record of the bytes is the header again, whatever follows them
abbrev pub IsKept : List ℕ → List ℕ → Type 0
IsKept head bytes = (more : List ℕ) → records_but head (bytes ++ more) ≡ all_records bytes ++ records_but head more

-- the bytes have no record but the header again, whatever follows them
abbrev pub IsPassed : List ℕ → List ℕ → Type 0
IsPassed head bytes = (more : List ℕ) → records_but head (bytes ++ more) ≡ records_but head more

-- the bytes are one record, which is the header again
pub record IsRepeated (head bytes : List ℕ) : Type 0 where
  pub one : length (all_records bytes) ≡ 1
  pub again : is_again head bytes ≡ true

-- The first bytes of a text are cut off: whole records that aren't the header again, as many as there are up to where it is, and at most `most`.
pub record Stops (head text : List ℕ) (most : ℕ) (stop : Stop) : Type 0 where
  pub within : stop.end ≤ length text
  pub whole : IsWhole (take stop.end text)
  pub count : length (all_records (take stop.end text)) ≡ stop.records
  pub few : stop.records ≤ most
  pub kept : IsKept head (take stop.end text)
  pub all : (stop.records ≡ most) ⊎ (HasNoEnd (drop stop.end text) ⊎ (0 < stop.header))
  pub fits : stop.end + stop.header ≤ length text
  pub again : 0 < stop.header → IsRepeated head (take stop.header (drop stop.end text)) × IsPassed head (take stop.header (drop stop.end text))

-- The first bytes of a text are the header again, or none are.
pub record Passes (head text : List ℕ) (is_all : Bool) (end : ℕ) : Type 0 where
  pub within : end ≤ length text
  pub repeated : 0 < end → IsRepeated head (take end text)
  pub passed : IsPassed head (take end text) ⊎ ((is_all ≡ true) × (end ≡ length text) × (records_but head text ≡ []))
