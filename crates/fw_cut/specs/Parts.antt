-- A text that is read and cut into parts.
use Rattle.std.specs.Prelude.{◌≡◌, ◌⊎◌, ◌≤◌, ℕ, Bool, true, List, [], ◌++◌, Option, Some, None, drop, length, ⊤}
use Rattle.std.specs.Io.KnownBytes.{IsAtEnd, prepend_known}
use Rattle.fw_charge.specs.Charge.{most_post_rows}
use Rattle.fw_cut.specs.Headers.{head_of, records_but, IsKept, IsRepeated}
use Rattle.fw_cut.specs.Records.{all_records, records_in, IsWhole}
use Rattle.fw_cut.specs.declared.cutter.Part.{Part}

-- a reader, the header of its text, what was read behind the header and isn't in a part yet, and whether the reader has nothing left
pub record CutterState (R : Type 0) : Type 0 where
  pub reader : R
  pub header : List ℕ
  pub buffer : List ℕ
  pub at_end : Bool

-- what is left, where it is known: what was read, and then what the reader has
abbrev pub left_of : {R : Type 0} → (R → Option (List ℕ)) → CutterState R → Option (List ℕ)
left_of remaining c = prepend_known c.buffer (remaining c.reader)

-- the records of a header with anything behind it are those of the header, and then those of what is behind it
abbrev pub IsHeader : List ℕ → Type 0
IsHeader header = (more : List ℕ) → records_in (header ++ more) ≡ records_in header ++ all_records more

pub record IsCutter {R : Type 0} (remaining : R → Option (List ℕ)) (c : CutterState R) : Type 0 where
  pub header : IsHeader c.header
  pub end : c.at_end ≡ true → IsAtEnd (remaining c.reader)

-- known bytes begin with a header, and their records are that of the header and then those of what is left
abbrev pub HeaderThen : Option (List ℕ) → List ℕ → Option (List ℕ) → Type 0
HeaderThen None header left = ⊤
HeaderThen (Some text) header None = ⊥
HeaderThen (Some text) header (Some left) = (text ≡ header ++ left) × (records_in text ≡ records_in header ++ all_records left)

-- the header was read, which is one record
pub record BeginsWith (known : Option (List ℕ)) (header : List ℕ) (left : Option (List ℕ)) : Type 0 where
  pub one : length (records_in header) ≡ 1
  pub then : HeaderThen known header left

-- The known bytes that were left are skipped ones, some bytes, and those that are left now. The records that aren't the header again are those of
-- these bytes, and then those that are left now.
abbrev pub RecordsThen : List ℕ → Option (List ℕ) → List ℕ → List ℕ → Option (List ℕ) → Type 0
RecordsThen head None skipped bytes new = ⊤
RecordsThen head (Some old) skipped bytes None = ⊥
RecordsThen head (Some old) skipped bytes (Some new) = (old ≡ skipped ++ (bytes ++ new)) × (records_but head old ≡ all_records bytes ++ records_but head new)

-- what is skipped is nothing, or the header again
abbrev pub IsSkipped : List ℕ → List ℕ → Type 0
IsSkipped head skipped = (skipped ≡ []) ⊎ IsRepeated head skipped

-- the known bytes that were left are skipped ones and those that are left now, and the records that aren't the header again are the same
abbrev pub SkipsThen : List ℕ → Option (List ℕ) → List ℕ → Option (List ℕ) → Type 0
SkipsThen head None skipped new = ⊤
SkipsThen head (Some old) skipped None = ⊥
SkipsThen head (Some old) skipped (Some new) = (old ≡ skipped ++ new) × (records_but head old ≡ records_but head new)

-- the header is skipped where it stands again
pub record Skips (head : List ℕ) (old new : Option (List ℕ)) (skipped : List ℕ) : Type 0 where
  pub once : IsSkipped head skipped
  pub next : SkipsThen head old skipped new

-- so many records are left that aren't the header again
abbrev pub Counted : List ℕ → Option (List ℕ) → ℕ → Type 0
Counted head None count = ⊤
Counted head (Some left) count = count ≡ length (records_but head left)

-- the most records of a part: as many as the rows that a post may have
abbrev pub most_records : ℕ
most_records = most_post_rows

-- A part of a text: the header, and the bytes that are next behind what is skipped. Its records are that of the header and those that are next and
-- aren't the header again.
pub record IsPart (header : List ℕ) (old new : Option (List ℕ)) (part : Part) : Type 0 where
  pub bytes : List ℕ
  pub text : part.text.items ≡ header ++ bytes
  pub header_len : part.header ≡ length header
  pub few : length (all_records bytes) ≤ most_records
  pub read : records_in part.text.items ≡ records_in header ++ all_records bytes
  pub skipped : IsSkipped (head_of header) part.skipped.items
  pub next : RecordsThen (head_of header) old part.skipped.items bytes new
  pub last : part.is_last ≡ true → IsAtEnd new

-- the bytes of a part behind its header
abbrev pub body_of : Part → List ℕ
body_of part = drop part.header part.text.items

-- where a part can end: behind whole records, or at the end of the text; none of its records is the header again
pub record CanEnd {R : Type 0} (c : CutterState R) (end : ℕ) (bytes : List ℕ) : Type 0 where
  pub within : end ≤ length c.buffer
  pub few : length (all_records bytes) ≤ most_records
  pub whole : (IsWhole bytes × IsKept (head_of c.header) bytes) ⊎ ((c.at_end ≡ true) × ((end ≡ length c.buffer) × (records_but (head_of c.header) bytes ≡ all_records bytes)))
