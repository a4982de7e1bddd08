-- What importing a part does.
use Rattle.std.specs.Prelude.{◌≡◌, ◌⊎◌, ◌≤◌, ℕ, length, Bool, List, [], ◌∷◌, false, Contains}
use Rattle.std.specs.Prelude.{IsTrue, Ok}
use Rattle.fw_charge.specs.Charge.{Charge}
use Rattle.fw_disk.specs.Volume.{View, LeavesOnly}
use Rattle.fw_entry.specs.Entry.{EntryValue}
use Rattle.fw_entry.specs.Entry.CommandValue.{post}
use Rattle.fw_recover.specs.Stands.{StandsForEither}
use Rattle.fw_recover.specs.Store.{StoreState}
use Rattle.fw_rows.specs.Rows.{RowsRead}
use Rattle.fw_snapshot.specs.History.{is_withdrawn}
use Rattle.fw_snapshot.specs.Verdicts.{with_more}
use Rattle.fw_import.specs.declared.importing.Outcome.{Outcome}
use Rattle.fw_import.specs.declared.importing.Taken.{Taken}
use Rattle.fw_import.specs.declared.importing.Outcome.TheVariants as outcome

-- the post of an origin under a number
abbrev pub post_of : List ℕ → ℕ → List Charge → EntryValue
post_of origin number rows = record { origin = origin; seq = number; command = post rows }

-- the rows of a text as a post
abbrev pub IsPostOf : List ℕ → List ℕ → ℕ → List ℕ → EntryValue → Type 0
IsPostOf currency origin number text e =
    (rows : List Charge)
    × RowsRead currency text (Ok rows)
    × (e ≡ post_of origin number rows)

-- where an entry was there already, it is one of those that the warehouse accepted
abbrev pub IsThere : Outcome → EntryValue → List EntryValue → Type 0
IsThere outcome.Added e entries = Unit {0}
IsThere outcome.Same e entries = Contains entries e

-- where a part was there already, the post of its rows is one of the entries that the warehouse accepted
abbrev pub IsPartThere : List ℕ → List ℕ → ℕ → List ℕ → Outcome → List EntryValue → Type 0
IsPartThere currency origin number text result entries =
    (e : EntryValue) × IsPostOf currency origin number text e × IsThere result e entries

-- the warehouse has the entry more; or it is as it was, and what it accepted under the number of the entry wasn't withdrawn
abbrev pub Becomes : {V : Type 0} → Outcome → EntryValue → StoreState V → StoreState V → Type 0
Becomes outcome.Added e old new = new.history ≡ with_more old.history (e ∷ [])
Becomes outcome.Same e old new =
    (new ≡ old)
    × (is_withdrawn old.history.entries e.origin e.seq ≡ false)

-- a part is taken: its rows are those of the text, and the warehouse becomes what it is by their post
abbrev pub IsTaken : {V : Type 0}
    → List ℕ → ℕ → List ℕ → Taken → StoreState V → StoreState V → Type 0
IsTaken origin number text taken old new =
    (rows : List Charge)
    × RowsRead old.history.currency text (Ok rows)
    × (taken.rows ≡ length rows)
    × Becomes taken.outcome (post_of origin number rows) old new

-- the store is as it was; or whatever a crash leaves since then stands for the warehouse as it was, or with one entry more at most
abbrev pub MayStop : {V : Type 0} → Bool → (V → View) → StoreState V → StoreState V → Type 0
MayStop tells view old new =
    (new ≡ old)
    ⊎ ((more : List EntryValue)
    × (length more ≤ 1)
    × (IsTrue tells
    → old.failed ≡ false
    → LeavesOnly (view old.volume) (view new.volume) (StandsForEither old.history more)))
