-- The items in hand: their importers and their entries, which stand in two lists.
use Rattle.std.specs.Prelude.{◌≡◌, ℕ, List, [], ◌∷◌, length}
use Rattle.fw_entry.specs.Entry.{EntryValue}
use Rattle.fw_group.specs.declared.inbox.Item.{Item}
use Rattle.fw_group.specs.declared.hand.Hand.TheInside.{Inside}

-- the importer and the entry of each place
abbrev pub items_of : List ℕ → List EntryValue → List Item
items_of [] entries = []
items_of (importer ∷ importers) [] = []
items_of (importer ∷ importers) (entry ∷ entries) = record { importer = importer; entry = entry } ∷ items_of importers entries

abbrev pub hand_view : Inside → List Item
hand_view h = items_of h.importers.items h.entries.items

-- each entry has its importer
abbrev pub KeepsHand : Inside → Type 0
KeepsHand h = length h.importers.items ≡ length h.entries.items
