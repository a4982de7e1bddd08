-- The records of a text, and the texts of whole records.
use Rattle.std.specs.Prelude.{◌≡◌, ◌==◌, ◌&&◌, not, ℕ, Bool, List, [], ◌∷◌, ◌++◌, true, if◌then◌else◌}
use Rattle.csv.specs.Machine.{Feeds}
use Rattle.csv.specs.Reading.{default_config, records, strip_bom, is_bom}
use Rattle.csv.specs.declared.parser.State.{State}

-- a record: its fields in order, each as its bytes
abbrev pub Record : Type 0
Record = List (List ℕ)

-- every record of a text that no byte order mark precedes
unfoldable pub all_records : List ℕ → List Record
all_records text = records default_config text

-- every record of a text, with a byte order mark at its start or without
unfoldable pub records_in : List ℕ → List Record
records_in text = all_records (strip_bom text)

-- how many bytes the byte order mark of a text has
unfoldable pub mark_len : List ℕ → ℕ
mark_len [] = 0
mark_len (a ∷ []) = 0
mark_len (a ∷ b ∷ []) = 0
mark_len (a ∷ b ∷ c ∷ rest) = if is_bom a b c then 3 else 0

-- whatever follows the text begins a record
abbrev pub IsWhole : List ℕ → Type 0
IsWhole text = (more : List ℕ) → all_records (text ++ more) ≡ all_records text ++ all_records more

-- the bytes are these records one after the other, each with the byte that ends it, read from the state s on; behind them is t
unfoldable pub Spells : State → List ℕ → List Record → State → Type 0
Spells s bytes [] t = (bytes ≡ []) × (t ≡ s)
Spells s bytes (r ∷ rs) t = (first rest : List ℕ) × (m : State) × (left : List ℕ) × (bytes ≡ first ++ rest) × Feeds default_config s [] [] first m r left true × Spells m rest rs t

-- whether a byte ends no line: before a record, one that does is passed over
abbrev pub is_content : ℕ → Bool
is_content b = not (b == 10) && not (b == 13)
