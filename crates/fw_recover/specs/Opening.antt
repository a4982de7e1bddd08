-- What is found while a warehouse is opened.
use Rattle.std.specs.Prelude.{◌≡◌, ◌≢◌, ◌⊎◌, ⊤, ℕ, ◌+◌, ◌-◌, ◌≤◌, Bool, IsTrue, List, ◌∷◌, ◌++◌, length, take, drop, map, All, Ok, Err}
use Rattle.fw_disk.specs.declared.volume.Side.{Side}
use Rattle.fw_disk.specs.Volume.{View, SameSizes, Calm}
use Rattle.fw_entry.specs.Entry.{EntryValue}
use Rattle.fw_entry_bytes.specs.declared.form.Form.{Form}
use Rattle.fw_entry_bytes.specs.Whole.{whole}
use Rattle.fw_journal.specs.Frames.{spelled, AllFit}
use Rattle.fw_journal.specs.declared.fault.LogFault.{LogFault}
use Rattle.fw_journal.specs.declared.fault.LogFault.TheVariants as faults
use Rattle.fw_segment.specs.Groups.{group, group_at, IsGroupOf}
use Rattle.fw_segment.specs.States.{state_at}
use Rattle.fw_snapshot.specs.History.{History}
use Rattle.fw_snapshot.specs.Judging.{IsLegal, IsLegalAfter}
use Rattle.fw_snapshot.specs.Verdicts.{with_more}
use Rattle.fw_recover.specs.declared.fault.StoreFault.{StoreFault}
use Rattle.fw_recover.specs.declared.fault.StoreFault.TheVariants.{NoHouse, Corrupt, Device, Failed, Generations, TooLarge, Exists, OldSide, NoMemory}
use Rattle.fw_recover.specs.Stands.{joined}

-- the faults of opening: of reading, of what the files hold, and of memory. The others come from calls that write
abbrev pub IsOpenFault : StoreFault → Type 0
IsOpenFault NoHouse = ⊤
IsOpenFault (Corrupt side at) = ⊤
IsOpenFault Device = ⊤
IsOpenFault Failed = ⊥
IsOpenFault Generations = ⊥
IsOpenFault TooLarge = ⊥
IsOpenFault Exists = ⊥
IsOpenFault OldSide = ⊥
IsOpenFault NoMemory = ⊤

-- a call that reads and writes nothing: no byte changes, a crash leaves nothing that it could not leave before, lengths stay,
-- and failures are counted
pub record OnlyReads (tells : Bool) (old new : View) : Type 0 where
  pub calm : IsTrue tells → Calm old new
  pub sizes : SameSizes old new
  pub later : old.failures ≤ new.failures

-- the fault of a log that is read on a side, as that of a store
abbrev pub log_fault : Side → LogFault → StoreFault
log_fault side faults.Device = Device
log_fault side (faults.Corrupt at) = Corrupt side at
log_fault side faults.Failed = Device
log_fault side faults.TooLarge = Device
log_fault side faults.NoMemory = NoMemory

-- the payload is no group of the form, or one with an entry that isn't accepted after those before it
abbrev pub GoesNotBehind : Form → List EntryValue → List ℕ → Type 0
GoesNotBehind form entries payload =
    ((left : ℕ) × (whole (group_at form) payload ≡ Err left))
    ⊎ ((es : List EntryValue) × (whole (group_at form) payload ≡ Ok es) × (IsLegalAfter entries es → ⊥))

-- the payload is that of a group of the form which goes behind the warehouse, and this is the warehouse with it
pub record GoesBehind (form : Form) (h : History) (payload : List ℕ) (next : History) : Type 0 where
  pub more : List EntryValue
  pub is_group : IsGroupOf form more
  pub spelled : payload ≡ group more
  pub legal : IsLegalAfter h.entries more
  pub is : next ≡ with_more h more

-- from the first gate of a log up to this one stand the frames of the groups, all of the form, that made a state into this warehouse
pub record HasGroups (form : Form) (state : History) (start gate : ℕ) (file : List ℕ) (now : History) : Type 0 where
  pub groups : List (List EntryValue)
  pub each : All (IsGroupOf form) groups
  pub is : drop start file ≡ spelled (map group groups) ++ drop gate file
  pub fit : AllFit (map group groups)
  pub place : gate ≡ start + length (spelled (map group groups))
  pub is_history : now ≡ with_more state (joined groups)
  pub legal : IsLegal now.entries

-- a closed gate stands here
pub record IsClosedAt (gate : ℕ) (file : List ℕ) : Type 0 where
  pub byte : ℕ
  pub rest : List ℕ
  pub is : drop gate file ≡ byte ∷ rest
  pub shut : byte ≢ 1

-- where a body of so many bytes spells no state of the form: the first fault is at this offset of the file
pub record HasBadBody (form : Form) (body_len at : ℕ) (file : List ℕ) : Type 0 where
  pub left : ℕ
  pub read : state_at form (take body_len (drop 25 file)) ≡ Err left
  pub place : at ≡ 25 + (length (take body_len (drop 25 file)) - left)
