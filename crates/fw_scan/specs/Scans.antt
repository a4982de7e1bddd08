-- What a scan finds.
use Rattle.std.specs.Prelude.{◌≡◌, ◌≤◌, ℕ, List, [], ◌++◌, true, false, Option, None, Some, take, drop, length, get_or}
use Rattle.csv.specs.Machine.{Read, next_record}
use Rattle.csv.specs.Reading.{default_config}
use Rattle.csv.specs.declared.parser.State.{State}
use Rattle.csv.specs.declared.parser.State.TheVariants as st
use Rattle.fw_scan.specs.Places.{Record}
use Rattle.fw_scan.specs.declared.scan.Scan.{Scan}

-- the first record of a text, with the state behind it and what is left there
abbrev pub first_record : List ℕ → Option Read
first_record text = next_record default_config st.StartRecord [] [] text

-- the first record of a text reads as these fields, with this state and this text behind it
abbrev pub ReadsAs : List ℕ → Record → State → List ℕ → Type 0
ReadsAs text fields state left = first_record text ≡ Some (fields, state, left)

-- these bytes are a record of these fields, whatever follows them
abbrev pub IsEnded : List ℕ → Record → State → Type 0
IsEnded bytes fields state = (more : List ℕ) → ReadsAs (bytes ++ more) fields state more

-- the record at the start of a text, and its field at a place
pub record IsRecord (text : List ℕ) (wanted : ℕ) (found : List ℕ) (scan : Scan) : Type 0 where
  pub fields : Record
  pub state : State
  pub within : scan.end ≤ length text
  pub read : ReadsAs text fields state (drop scan.end text)
  pub count : length fields ≡ scan.fields
  pub value : found ≡ get_or fields wanted []
  pub ended : scan.is_ended ≡ true → IsEnded (take scan.end text) fields state
  -- else the end of the text ends it
  pub last : scan.is_ended ≡ false → scan.end ≡ length text

-- the text has no record, or it is found
abbrev pub FindsRecord : List ℕ → ℕ → List ℕ → Option Scan → Type 0
FindsRecord text wanted value None = first_record text ≡ None
FindsRecord text wanted value (Some scan) = IsRecord text wanted value scan
