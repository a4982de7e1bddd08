-- Adding entries to a warehouse: what is prepared before anything is written, and what is left by the calls that write it.
use Rattle.std.specs.Prelude.{◌≡◌, ◌⊎◌, ℕ, ◌+◌, ◌<◌, ◌≤◌, Bool, true, false, IsTrue, List, [], ◌∷◌, length, take}
use Rattle.fw_disk.specs.Volume.{Image, View, LeavesOnly, Rose}
use Rattle.fw_entry.specs.Entry.{EntryValue}
use Rattle.fw_segment.specs.Groups.{group, IsGroup}
use Rattle.fw_snapshot.specs.History.{History}
use Rattle.fw_snapshot.specs.Judging.{judged}
use Rattle.fw_snapshot.specs.Verdicts.{taken, verdicts_on, accepted_of, with_more}
use Rattle.fw_snapshot.specs.declared.verdict.Verdict.{Verdict}
use Rattle.fw_recover.specs.declared.fault.StoreFault.{StoreFault}
use Rattle.fw_recover.specs.declared.fault.StoreFault.TheVariants.{Device, Failed, TooLarge, OldSide, NoMemory}
use Rattle.fw_recover.specs.Stands.{StandsFor, StandsForEither, EachStandsFor}
use Rattle.fw_recover.specs.Store.{StoreState}

-- entries that were judged and are ready to be written: the warehouse after which they were judged, those that were accepted,
-- and the verdict on each
pub record PreparedState : Type 0 where
  pub before : History
  pub accepted : List EntryValue
  pub verdicts : List Verdict

-- each entry judged after the warehouse's and the accepted ones before it
abbrev pub prepared_on : History → List EntryValue → PreparedState
prepared_on h es = record { before = h; accepted = accepted_of h.entries es; verdicts = verdicts_on h.entries es }

-- the bytes of the group of these entries; no bytes where there is no entry
abbrev pub payload_of : List EntryValue → List ℕ
payload_of [] = []
payload_of (e ∷ es) = group (e ∷ es)

-- entries that can be one frame of a log
pub record IsFrameable (entries : List EntryValue) : Type 0 where
  pub is_group : IsGroup entries
  pub size : length (group entries) ≤ 8388608

-- the frame of these entries and the closed gate behind it would end past the limit; without entries there is no frame
abbrev pub HasNoRoom : {V : Type 0} → ℕ → StoreState V → List EntryValue → Type 0
HasNoRoom limit s accepted = (0 < length accepted) × (limit < s.log.end + 6 + length (group accepted))

-- the volume of the store has no room for these entries
abbrev pub LacksRoom : {V : Type 0} → (V → View) → StoreState V → List EntryValue → Type 0
LacksRoom view s accepted = HasNoRoom (view s.volume).limit s accepted

-- the verdict of the store's warehouse on an entry, and the entry where it is accepted
abbrev pub judged_on : {V : Type 0} → StoreState V → EntryValue → Verdict
judged_on s e = judged s.history.entries e

abbrev pub taken_on : {V : Type 0} → StoreState V → EntryValue → List EntryValue
taken_on s e = taken s.history.entries e

-- those of the entries that the store's warehouse accepts, each after its own and the accepted ones before it
abbrev pub accepted_on : {V : Type 0} → StoreState V → List EntryValue → List EntryValue
accepted_on s es = accepted_of s.history.entries es

-- at each moment from the one store to the other a crash leaves the warehouse as it was, or with all of these entries
abbrev pub LeavesEither : {V : Type 0} → (V → View) → StoreState V → StoreState V → List EntryValue → Type 0
LeavesEither view old new more = LeavesOnly (view old.volume) (view new.volume) (StandsForEither old.history more)

-- the store after these entries were added: they are in the warehouse and, where there are any, in the log. Whatever a crash
-- leaves from now on stands for the warehouse with them. The side in use stays, and so do its form and its generation
pub record Committed {V : Type 0} (tells : Bool) (view : V → View) (old new : StoreState V) (accepted : List EntryValue) : Type 0 where
  pub went_on : old.failed ≡ false
  pub history : new.history ≡ with_more old.history accepted
  pub failed : new.failed ≡ false
  pub none : accepted ≡ [] → new ≡ old
  pub moved : 0 < length accepted → (new.form ≡ old.form) × (new.generation ≡ old.generation) × (new.log ≡ record old.log { end = old.log.end + 5 + length (group accepted) })
  pub each : IsTrue tells → EachStandsFor new.history (view new.volume)

-- the store after a payload went to its log, with which its warehouse is this one
pub record Appended {V : Type 0} (tells : Bool) (view : V → View) (old new : StoreState V) (payload : List ℕ) (next : History) : Type 0 where
  pub history : new.history ≡ next
  pub form : new.form ≡ old.form
  pub generation : new.generation ≡ old.generation
  pub log : new.log ≡ record old.log { end = old.log.end + 5 + length payload }
  pub failed : new.failed ≡ false
  pub each : IsTrue tells → EachStandsFor next (view new.volume)

-- the store after the device failed: it shows the warehouse as it was, and takes no more
pub record Lost {V : Type 0} (old new : StoreState V) : Type 0 where
  pub history : new.history ≡ old.history
  pub form : new.form ≡ old.form
  pub generation : new.generation ≡ old.generation
  pub failed : new.failed ≡ true
  pub log : new.log ≡ record old.log { failed = true }

-- the faults of the calls that add entries
abbrev pub IsCommitFault : StoreFault → Type 0
IsCommitFault fault = (fault ≡ Device) ⊎ ((fault ≡ Failed) ⊎ ((fault ≡ OldSide) ⊎ ((fault ≡ TooLarge) ⊎ (fault ≡ NoMemory))))

-- how a call that adds entries fails: with one of these faults, and without a change, unless the device failed. A failed device
-- is counted by the volume, and the store takes no more
pub record Fails {V : Type 0} (view : V → View) (old new : StoreState V) (fault : StoreFault) : Type 0 where
  pub which : IsCommitFault fault
  pub unchanged : (fault ≡ Device) ⊎ (new ≡ old)
  pub lost : fault ≡ Device → Lost old new
  pub device : fault ≡ Device → Rose (view old.volume).failures (view new.volume).failures

-- the warehouse with those that it accepts of the first n entries
abbrev pub with_first : History → ℕ → List EntryValue → History
with_first h n es = with_more h (accepted_of h.entries (take n es))

-- the files stand for the warehouse with those that it accepts of some first entries
abbrev pub StandsForFirst : History → List EntryValue → Image → Type 0
StandsForFirst h es c = (n : ℕ) × StandsFor (with_first h n es) c

-- the same, where each of the first `answered` entries is among them, and one more at most
pub record HasAnswered (h : History) (es : List EntryValue) (answered : ℕ) (c : Image) : Type 0 where
  pub first : ℕ
  pub all : answered ≤ first
  pub one_more : first ≤ answered + 1
  pub stands : StandsFor (with_first h first es) c
