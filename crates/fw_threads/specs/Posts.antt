-- What was posted in a split, and what of it waits.
use Rattle.std.specs.Prelude.{◌≡◌, ◌<◌, ℕ, Bool, List, []}
use Rattle.fw_entry.specs.Entry.{EntryValue}
use Rattle.fw_entry.specs.Entry.CommandValue.{post}
use Rattle.fw_group.specs.declared.inbox.Item.{Item}

-- what stands for an entry where there is none
abbrev pub no_entry : EntryValue
no_entry = record { origin = []; seq = 0; command = post [] }

-- a place in the list of all entries that were posted, and the entry there
pub record Posted : Type 0 where
  pub place : ℕ
  pub entry : EntryValue

abbrev pub posted_entry : Posted → EntryValue
posted_entry p = p.entry

-- what lies under the lock: the items that wait, whether later ones are refused, and how many importers haven't left
pub record WaitingState : Type 0 where
  pub waiting : List Item
  pub closed : Bool
  pub importers : ℕ

-- nothing waits, and an importer hasn't left
abbrev pub IsIdle : WaitingState → Type 0
IsIdle w = (w.waiting ≡ []) × (0 < w.importers)
