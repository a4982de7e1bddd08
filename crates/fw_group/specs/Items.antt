-- Items: an entry, and the importer who posted it.
use Rattle.std.specs.Prelude.{◌≡◌, ◌≢◌, ℕ, Bool, List, [], ◌∷◌, All, map}
use Rattle.fw_entry.specs.Entry.{EntryValue}
use Rattle.fw_group.specs.declared.inbox.Item.{Item}

abbrev pub entry_of : Item → EntryValue
entry_of item = item.entry

abbrev pub importer_of : Item → ℕ
importer_of item = item.importer

-- their entries, in order
abbrev pub entries_of : List Item → List EntryValue
entries_of items = map entry_of items

-- who posted them, in order
abbrev pub importers_of : List Item → List ℕ
importers_of items = map importer_of items

-- none of them is of this importer
abbrev pub IsFree : ℕ → List Item → Type 0
IsFree importer items = All (λ (item : Item). item.importer ≢ importer) items

-- what waits, and whether later items are refused
pub record InboxState : Type 0 where
  pub waiting : List Item
  pub closed : Bool
