-- What importing a part does where columns are kept as tags.
use Rattle.std.specs.Prelude.{◌≡◌, ℕ, length, List, Ok}
use Rattle.fw_charge.specs.Charge.{Charge}
use Rattle.fw_entry.specs.Entry.{EntryValue}
use Rattle.fw_recover.specs.Store.{StoreState}
use Rattle.fw_rows.specs.Keeps.{KeepText}
use Rattle.fw_rows.specs.Kept.{RowsKept}
use Rattle.fw_import.specs.Importing.{Becomes, IsThere, post_of}
use Rattle.fw_import.specs.declared.importing.Outcome.{Outcome}
use Rattle.fw_import.specs.declared.importing.Taken.{Taken}

-- the rows of a text, with the tags of its kept columns added, as a post
abbrev pub IsPostKept : List ℕ → List KeepText → List ℕ → ℕ → List ℕ → EntryValue → Type 0
IsPostKept currency keeps origin number text e =
    (rows : List Charge)
    × RowsKept currency keeps text (Ok rows)
    × (e ≡ post_of origin number rows)

-- where a part was there already, the post of these rows is one of the entries that the warehouse accepted
abbrev pub IsKeptThere : List ℕ → List KeepText → List ℕ → ℕ → List ℕ → Outcome → List EntryValue → Type 0
IsKeptThere currency keeps origin number text result entries =
    (e : EntryValue) × IsPostKept currency keeps origin number text e × IsThere result e entries

-- a part is taken: its rows are those of the text with the tags of its kept columns added, and the warehouse becomes what it is by their post
abbrev pub IsKeptTaken : {V : Type 0}
    → List KeepText → List ℕ → ℕ → List ℕ → Taken → StoreState V → StoreState V → Type 0
IsKeptTaken keeps origin number text taken old new =
    (rows : List Charge)
    × RowsKept old.history.currency keeps text (Ok rows)
    × (taken.rows ≡ length rows)
    × Becomes taken.outcome (post_of origin number rows) old new
