-- Heads that are read with their rows, without a word on how.
use Rattle.std.specs.Prelude.{◌≡◌, ⊤, ℕ, ◌-◌, true, false, List, [], ◌∷◌, ◌++◌, length, take, drop}
use Rattle.std.specs.List.{flat_map}
use Rattle.fw_charge.specs.Charge.{Charge}
use Rattle.fw_entry.specs.Entry.{EntryValue}
use Rattle.fw_segment.specs.Heads.{head}
use Rattle.fw_snapshot.specs.Heads.{HeadValue, entries_of, entry_of, row_count, row_counts}
use Rattle.fw_snapshot.specs.Verdicts.{goes_behind}

-- each entry goes behind the first ones and those before it
abbrev pub EachGoesBehind : List EntryValue → List EntryValue → Type 0
EachGoesBehind first [] = ⊤
EachGoesBehind first (e ∷ es) = (goes_behind first e ≡ true) × EachGoesBehind (first ++ e ∷ []) es

-- the entry of a head that stands behind others, which have their rows
abbrev pub next_entry : List HeadValue → HeadValue → List Charge → EntryValue
next_entry before h rows = entry_of h (take (row_count h.content) (drop (row_counts before) rows))

-- The heads are some whose entries go behind the first ones in turn, one whose entry doesn't, and
-- any others. So many bytes are left from that one on.
pub record HasBadHead (left : ℕ) (first : List EntryValue) (heads : List HeadValue) (rows : List Charge) (at : ℕ) : Type 0 where
  pub before : List HeadValue
  pub bad : HeadValue
  pub after : List HeadValue
  pub is : heads ≡ before ++ bad ∷ after
  pub each : EachGoesBehind first (entries_of before rows)
  pub never : goes_behind (first ++ entries_of before rows) (next_entry before bad rows) ≡ false
  pub place : at ≡ left - length (flat_map head before)
