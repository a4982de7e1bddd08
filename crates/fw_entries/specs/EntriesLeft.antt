-- The entries of a warehouse that aren't taken yet.
use Rattle.std.specs.Prelude.{◌≡◌, List, All, drop, map}
use Rattle.fw_entry.specs.Entry.{EntryValue}
use Rattle.fw_entry.specs.Spelling.{IsEntry}
use Rattle.fw_snapshot.specs.Heads.{entries_of, head_of}
use Rattle.fw_entries.specs.RowsLeft.{rows_left}
use Rattle.fw_entries.specs.declared.entries_left.EntriesLeft.TheInside.{Inside}

-- the entries of the heads and the rows that are left
abbrev pub entries_left : Inside → List EntryValue
entries_left e = entries_of (drop e.taken e.heads.now) (rows_left e.rows)

-- each of them keeps its limits, and has the rows that its head says
pub record KeepsEntries (e : Inside) : Type 0 where
  pub each : All IsEntry (entries_left e)
  pub heads : map head_of (entries_left e) ≡ drop e.taken e.heads.now
