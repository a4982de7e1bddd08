-- When there is no such entry.
use Rattle.std.specs.Prelude.{◌≡◌, ◌<◌, ℕ, false, true, List, length, ⊤}
use Rattle.fw_entry.specs.Entry.{CommandValue, EntryValue, is_origin}
use Rattle.fw_entry.specs.Spelling.{entry, most_entry_bytes}
use Rattle.fw_entry.specs.declared.fault.EntryFault.{EntryFault}
use Rattle.fw_entry.specs.declared.fault.EntryFault.TheVariants as fault

-- there is no entry of these parts for this reason, the first that holds; running out of memory may come in place of any answer
abbrev pub IsRefused : List ℕ → ℕ → CommandValue → EntryFault → Type 0
IsRefused origin seq command fault.Origin = is_origin origin ≡ false
IsRefused origin seq command fault.Seq = (is_origin origin ≡ true) × (seq ≡ 0)
IsRefused origin seq command fault.TooLarge =
    (is_origin origin ≡ true) × (0 < seq) × (most_entry_bytes < length (entry (record { origin = origin; seq = seq; command = command })))
IsRefused origin seq command fault.NoMemory = ⊤
