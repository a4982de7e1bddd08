-- A store: an open warehouse on a volume, and what holds of it between two calls.
use Rattle.std.specs.Prelude.{◌≡◌, ℕ, ◌+◌, ◌^◌, ◌<◌, Bool, true, false, IsTrue, List, length, map}
use Rattle.fw_disk.specs.Volume.{Image, View}
use Rattle.fw_entry.specs.Entry.{EntryValue}
use Rattle.fw_entry_bytes.specs.declared.form.Form.{Form}
use Rattle.fw_journal.specs.Log.{LogState, Stands}
use Rattle.fw_segment.specs.Groups.{group}
use Rattle.fw_snapshot.specs.History.{History}
use Rattle.fw_recover.specs.Making.{AllSettled}
use Rattle.fw_recover.specs.Sides.{generation_of}
use Rattle.fw_recover.specs.Stands.{StandsFor, StandsForEither}

-- a store: its volume, the form, the generation and the log of the side in use, the warehouse, and whether the device has
-- failed in a call that writes
pub record StoreState (V : Type 0) : Type 0 where
  pub volume : V
  pub form : Form
  pub generation : ℕ
  pub log : LogState
  pub history : History
  pub failed : Bool

-- Nothing is pending, and what is read stands for the warehouse on the side of the log, which is of the form and has its groups.
pub record IsFresh (form : Form) (generation : ℕ) (log : LogState) (h : History) (v : View) : Type 0 where
  pub settled : AllSettled v
  pub standing : StandsFor h v.seen
  pub in_use : standing.side ≡ log.side
  pub form_is : standing.tells.form ≡ form
  pub generation_is : generation_of (v.seen log.side) ≡ generation
  pub start : log.start ≡ 25 + length standing.tells.body
  pub stands : Stands log (map group standing.tells.groups) v

-- what holds of a volume whose side in use has been read or made: its form, its generation, its log, and the warehouse
pub record IsInUse (tells : Bool) (form : Form) (generation : ℕ) (log : LogState) (h : History) (v : View) : Type 0 where
  pub room : log.end < v.size log.side
  pub some_generation : 0 < generation
  pub generation_fits : generation < 2 ^ 64
  pub log_goes_on : log.failed ≡ false
  pub fresh : IsTrue tells → IsFresh form generation log h v

-- What a store keeps. After a failure of the device each image stands for the warehouse, or for it with all the entries that
-- were being written.
pub record IsKept {V : Type 0} (tells : Bool) (view : V → View) (s : StoreState V) : Type 0 where
  pub room : s.log.end < (view s.volume).size s.log.side
  pub some_generation : 0 < s.generation
  pub generation_fits : s.generation < 2 ^ 64
  pub log : s.failed ≡ false → s.log.failed ≡ false
  pub fresh : IsTrue tells → s.failed ≡ false → IsFresh s.form s.generation s.log s.history (view s.volume)
  pub lost : IsTrue tells → s.failed ≡ true → (more : List EntryValue) × ((c : Image) → (view s.volume).may_leave c → StandsForEither s.history more c)
