-- A warehouse on a volume as commands see it, and what they do to the volume.
use Rattle.std.specs.Prelude.{◌≡◌, ◌⊎◌, ℕ, ◌≤◌, Bool, true, false, IsTrue, List, [], ◌∷◌, ◌++◌}
use Rattle.fw_disk.specs.Volume.{Image, View, LeavesOnly, Rose}
use Rattle.fw_entry.specs.Entry.{EntryValue}
use Rattle.fw_entry_bytes.specs.declared.form.Form.{Form}
use Rattle.fw_recover.specs.Stands.{StandsFor, StandsForEither}
use Rattle.fw_recover.specs.Store.{StoreState}
use Rattle.fw_snapshot.specs.History.{History}
use Rattle.fw_snapshot.specs.Verdicts.{with_more}

-- the warehouse, the form and the generation of the side in use, the offset at which its log ends, the limit of the volume, and
-- whether the device has failed
pub record Standing : Type 0 where
  pub history : History
  pub form : Form
  pub generation : ℕ
  pub end : ℕ
  pub limit : ℕ
  pub failed : Bool

abbrev pub standing_of : {V : Type 0} → (V → View) → StoreState V → Standing
standing_of view s = record { history = s.history; form = s.form; generation = s.generation; end = s.log.end; limit = (view s.volume).limit; failed = s.failed }

-- the warehouse has all of these entries; or, where the device has failed, all but the last of them, which is the one in flight
abbrev pub Leads : (EntryValue → Type 0) → History → List EntryValue → Standing → Type 0
Leads InFlight before more after =
    ((rest : List EntryValue) × (after.history ≡ with_more before (more ++ rest)))
    ⊎ ((after.failed ≡ true) × ((done : List EntryValue) × (last : EntryValue) × InFlight last × (more ≡ done ++ last ∷ []) × (after.history ≡ with_more before done)))

-- The files stand for the warehouse as it was before with some entries more: those that it has after, up to some place; or,
-- only where the device has failed, all of these and the one in flight.
pub record IsBetween (InFlight : EntryValue → Type 0) (before : History) (after : Standing) (c : Image) : Type 0 where
  pub more : List EntryValue
  pub stands : StandsFor (with_more before more) c
  pub leads : Leads InFlight before more after

-- these entries are none, or the one in flight
abbrev pub AreInFlight : (EntryValue → Type 0) → List EntryValue → Type 0
AreInFlight InFlight more = (more ≡ []) ⊎ ((e : EntryValue) × (more ≡ e ∷ []) × InFlight e)

-- whatever a crash leaves now stands for the warehouse, or for it with the entry in flight, if there is one
abbrev pub LeavesInFlight : (EntryValue → Type 0) → History → View → Type 0
LeavesInFlight InFlight h v = (more : List EntryValue) × AreInFlight InFlight more × ((c : Image) → v.may_leave c → StandsForEither h more c)

-- What commands leave of a store that hadn't failed: the warehouse has the entries that it had, and perhaps more; whatever a crash
-- leaves at any moment stands for a warehouse between the two; the store has failed only where the device did, and then the files
-- have one entry more at most, the one in flight.
pub record Steps {V : Type 0} (tells : Bool) (view : V → View) (InFlight : EntryValue → Type 0) (old new : StoreState V) : Type 0 where
  pub works : old.failed ≡ false
  pub more : List EntryValue
  pub grows : new.history ≡ with_more old.history more
  pub any_moment : IsTrue tells → LeavesOnly (view old.volume) (view new.volume) (IsBetween InFlight old.history (standing_of view new))
  pub once_failed : IsTrue tells → new.failed ≡ true → LeavesInFlight InFlight new.history (view new.volume)
  pub cause : new.failed ≡ true → Rose (view old.volume).failures (view new.volume).failures
  pub later : (view old.volume).failures ≤ (view new.volume).failures

-- what commands leave of a store: it is as it was, or has gone on
abbrev pub Moves : {V : Type 0} → Bool → (V → View) → (EntryValue → Type 0) → StoreState V → StoreState V → Type 0
Moves tells view InFlight old new = (new ≡ old) ⊎ Steps tells view InFlight old new
