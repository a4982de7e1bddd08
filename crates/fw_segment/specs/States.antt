-- States: a currency, the heads of the entries, and their rows, cut into segments in any way, each of them in any layout.
use Rattle.std.specs.Prelude.{◌≡◌, ◌-◌, ℕ, Bool, ◌&&◌, List, [], ◌∷◌, ◌++◌, length, take, drop, map, All, Result, Ok, Err, ◌==◌, if◌then◌else◌}
use Rattle.std.specs.List.{list_all}
use Rattle.std.specs.Char.{is_ascii_uppercase}
use Rattle.fw_bytes.specs.Spelling.{text, listed, Fits32, Fits64}
use Rattle.fw_bytes.specs.Reading.{Reading, ◌>>=◌, text_at, checked, both, seen, list_at}
use Rattle.fw_charge.specs.Charge.{Charge}
use Rattle.fw_charge.specs.Currencies.{IsCode}
use Rattle.fw_entry.specs.Entry.{EntryValue}
use Rattle.fw_entry.specs.Spelling.{IsEntry}
use Rattle.fw_entry_bytes.specs.declared.form.Form.{Form}
use Rattle.fw_entry_bytes.specs.Whole.{whole}
use Rattle.fw_posted.specs.Rows.{segment_rows}
use Rattle.fw_snapshot.specs.Heads.{HeadValue, head_of, entry_of, row_count, row_counts}
use Rattle.fw_snapshot.specs.History.{History, rows_posted}
use Rattle.fw_snapshot.specs.Judging.{IsLegal}
use Rattle.fw_snapshot.specs.Verdicts.{goes_behind}
use Rattle.fw_snapshot.specs.Joined.{AreFull}
use Rattle.fw_segment.specs.declared.layout.SegmentLayout.{SegmentLayout}
use Rattle.fw_segment.specs.declared.layout.SegmentLayout.TheVariants.{Columns}
use Rattle.fw_segment.specs.Segments.{segment, segment_at, IsSegment}
use Rattle.fw_segment.specs.Heads.{head, heads, heads_at}

-- ---- how a state is written

-- rows that are cut into segments, and how each segment is laid out
abbrev pub Cut : Type 0
Cut = List (SegmentLayout × List Charge)

-- the rows of the segments of a cut
abbrev pub cut_rows : Cut → List (List Charge)
cut_rows cut = map (λ s. s.1) cut

-- the currency, the heads, and the segments of this cut: their number, and each in turn
unfoldable pub state : List ℕ → List HeadValue → Cut → List ℕ
state currency hs cut = text currency ++ (heads hs ++ listed (λ s. segment s.0 s.1) cut)

-- the states that there are: each entry is one, and was accepted after those before it
pub record IsHistory (h : History) : Type 0 where
  pub currency : IsCode h.currency
  pub count : Fits64 (length h.entries)
  pub each : All IsEntry h.entries
  pub legal : IsLegal h.entries

-- the bytes spell the state: they are what some cut of the rows that were ever posted gives
pub record Spells (bytes : List ℕ) (h : History) : Type 0 where
  pub cut : Cut
  pub count : Fits32 (length cut)
  pub segments : All (λ s. IsSegment s.1) cut
  pub rows : segment_rows (cut_rows cut) ≡ rows_posted h.entries
  pub history : IsHistory h
  pub spelled : bytes ≡ state h.currency (map head_of h.entries) cut

-- segments, each of them by column
abbrev pub by_column : List (List Charge) → Cut
by_column segments = map (λ rows. (Columns, rows)) segments

-- the bytes spell the state, and they are what these segments of its rows give, each of them by column
pub record SpellsByColumn (bytes : List ℕ) (h : History) (segments : List (List Charge)) : Type 0 where
  pub count : Fits32 (length segments)
  pub each : All IsSegment segments
  pub rows : segment_rows segments ≡ rows_posted h.entries
  pub history : IsHistory h
  pub spelled : bytes ≡ state h.currency (map head_of h.entries) (by_column segments)

-- the same, of segments that are joined as a checkpoint writes them: no two that follow each other have room in one
pub record SpellsJoined (bytes : List ℕ) (h : History) (segments : List (List Charge)) : Type 0 where
  pub columns : SpellsByColumn bytes h segments
  pub full : AreFull segments

-- ---- how a state is read

-- three capital letters of ASCII
abbrev pub is_currency : List ℕ → Bool
is_currency letters = (length letters == 3) && list_all is_ascii_uppercase letters

unfoldable pub currency_at : Reading (List ℕ)
currency_at = checked is_currency text_at

abbrev pub most_segments : ℕ
most_segments = 4294967295

-- the rows of segments, of any number of them
unfoldable pub rows_at : Reading (List Charge)
rows_at = seen segment_rows (list_at 0 most_segments segment_at)

-- the currency, the heads and the rows
abbrev pub Parts : Type 0
Parts = List ℕ × (List HeadValue × List Charge)

unfoldable pub parts_at : Form → Reading Parts
parts_at form = both currency_at (both (heads_at form) rows_at)

-- the entries of heads behind others: each post takes its rows from the front of what the posts before it left. The first that doesn't go behind
-- those before it is a fault at its head; so many bytes are left from the first head on
unfoldable pub replayed : ℕ → List EntryValue → List HeadValue → List Charge → Result (List EntryValue) ℕ
replayed left entries [] rows = Ok entries
replayed left entries (h ∷ hs) rows =
    if goes_behind entries (entry_of h (take (row_count h.content) rows))
    then replayed (left - length (head h)) (entries ++ entry_of h (take (row_count h.content) rows) ∷ []) hs (drop (row_count h.content) rows)
    else Err left

-- the first head stands behind the currency's length and its three letters, and the number of heads
abbrev pub bytes_before_heads : ℕ
bytes_before_heads = 15

-- a warehouse that goes on with the entries of heads, each judged after those before it
unfoldable pub continued : ℕ → History → List HeadValue → List Charge → Result History ℕ
continued left h hs rows = do
  entries ← replayed left h.entries hs rows
  Ok (record { currency = h.currency; entries = entries })

-- the warehouse of this currency after the entries of heads
unfoldable pub replayed_state : ℕ → List ℕ → List HeadValue → List Charge → Result History ℕ
replayed_state left currency hs rows = continued left (record { currency = currency; entries = [] }) hs rows

-- what parts stand for: there must be as many rows as the heads say, else the fault is at the first byte of all
unfoldable pub state_from : ℕ → Parts → Result History ℕ
state_from total p = if length p.1.1 == row_counts p.1.0 then replayed_state (total - bytes_before_heads) p.0 p.1.0 p.1.1 else Err total

-- the state that all of the bytes spell
unfoldable pub state_at : Form → List ℕ → Result History ℕ
state_at form bytes = do
  p ← whole (parts_at form) bytes
  state_from (length bytes) p
