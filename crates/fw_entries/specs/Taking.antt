-- Entries that are taken from the front of a list.
use Rattle.std.specs.Prelude.{◌≡◌, List, [], ◌∷◌, Option, Some, None}
use Rattle.fw_entry.specs.Entry.{EntryValue}

-- the next entry of a list, and what is left behind it; or there is none, and nothing is left
abbrev pub IsNext : Option EntryValue → List EntryValue → List EntryValue → Type 0
IsNext None before after = (before ≡ []) × (after ≡ [])
IsNext (Some e) before after = before ≡ e ∷ after
