-- What a file is posted as.
use Rattle.std.specs.Prelude.{◌≡◌, ◌⊎◌, ◌++◌, ℕ, List, Ok, Err, codes, decimal}
use Rattle.fw_charge.specs.Charge.{Charge}
use Rattle.fw_entry.specs.Entry.{EntryValue}
use Rattle.fw_entry.specs.Entry.CommandValue.{post}
use Rattle.fw_entry.specs.Refusals.{IsRefused}
use Rattle.fw_entry.specs.declared.fault.EntryFault.{EntryFault}
use Rattle.fw_rows.specs.Rows.{RowsRead}
use Rattle.fw_rows.specs.declared.fault.RowFault.{RowFault}
use Rattle.fw_serve.specs.Replies.{row_fault_line, entry_fault_line, no_memory_line}

-- the origin of a file: the name, a point and the file's number
abbrev pub origin_of : List ℕ → ℕ → List ℕ
origin_of name number = name ++ codes "." ++ decimal number

-- the rows of a text, as the first entry of the file's origin
abbrev pub IsFileOf : List ℕ → List ℕ → ℕ → List ℕ → EntryValue → Type 0
IsFileOf currency name number text e =
    (rows : List Charge) × RowsRead currency text (Ok rows) × (e ≡ record { origin = origin_of name number; seq = 1; command = post rows })

-- the line of a text that is no file: that of its first fault, or of why its rows make no entry; memory may run out in place of either
abbrev pub IsNoFile : List ℕ → List ℕ → ℕ → List ℕ → List ℕ → Type 0
IsNoFile currency name number text line =
    (line ≡ no_memory_line)
    ⊎ ((fault : RowFault) × RowsRead currency text (Err fault) × (line ≡ row_fault_line fault))
    ⊎ ((rows : List Charge) × (fault : EntryFault) × RowsRead currency text (Ok rows) × IsRefused (origin_of name number) 1 (post rows) fault × (line ≡ entry_fault_line fault))
