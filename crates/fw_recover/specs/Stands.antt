-- What two files stand for: the warehouse of the open side of greater generation, or none.
use Rattle.std.specs.Prelude.{◌≡◌, ◌⊎◌, ℕ, ◌^◌, ◌<◌, List, [], ◌∷◌, ◌++◌, length, map, All}
use Rattle.fw_disk.specs.declared.volume.Side.{Side}
use Rattle.fw_disk.specs.Volume.{Image, View, other}
use Rattle.fw_entry.specs.Entry.{EntryValue}
use Rattle.fw_entry_bytes.specs.declared.form.Form.{Form}
use Rattle.fw_journal.specs.Frames.{Tells}
use Rattle.fw_entry_bytes.specs.Forms.{IsOfForm}
use Rattle.fw_segment.specs.Groups.{group, IsGroupOf}
use Rattle.fw_segment.specs.States.{Spells}
use Rattle.fw_snapshot.specs.History.{History}
use Rattle.fw_snapshot.specs.Judging.{IsLegal}
use Rattle.fw_snapshot.specs.Verdicts.{with_more}
use Rattle.fw_recover.specs.Sides.{made_of, generation_of, IsOpen, IsSound}

-- the entries of groups, in order
abbrev pub joined : List (List EntryValue) → List EntryValue
joined [] = []
joined (g ∷ groups) = g ++ joined groups

-- An open side holds a warehouse: its body spells a state, the payloads of its log spell groups, and the warehouse is that
-- state with the entries of all groups after it, each of which was accepted after those before it. The form that its magic word
-- names has each of these entries. Behind the closed gate there may be any bytes.
pub record SideTells (generation : ℕ) (h : History) (file : List ℕ) : Type 0 where
  pub form : Form
  pub body : List ℕ
  pub fits : length body < 2 ^ 64
  pub log : List ℕ
  pub is : file ≡ 1 ∷ (made_of form generation body ++ log)
  pub state : History
  pub spells : Spells body state
  pub of_form : IsOfForm form state.entries
  pub groups : List (List EntryValue)
  pub each : All (IsGroupOf form) groups
  pub tells : Tells (map group groups) log
  pub is_history : h ≡ with_more state (joined groups)
  pub legal : IsLegal h.entries

-- each open side is sound, this side is open, and the other one is older where it is open
pub record IsNewest (c : Image) (side : Side) : Type 0 where
  pub sound : (s : Side) → IsOpen (c s) → IsSound (c s)
  pub is_open : IsOpen (c side)
  pub newest : IsOpen (c (other side)) → generation_of (c (other side)) < generation_of (c side)

-- the two files stand for the warehouse
pub record StandsFor (h : History) (c : Image) : Type 0 where
  pub side : Side
  pub newest : IsNewest c side
  pub tells : SideTells (generation_of (c side)) h (c side)

-- the two files stand for no warehouse: no side is open
abbrev pub StandsForNone : Image → Type 0
StandsForNone c = (s : Side) → IsOpen (c s) → ⊥

-- they stand for the warehouse as it was, or with all of these entries
abbrev pub StandsForEither : History → List EntryValue → Image → Type 0
StandsForEither h more c = StandsFor h c ⊎ StandsFor (with_more h more) c

-- whatever a crash leaves stands for the warehouse
abbrev pub EachStandsFor : History → View → Type 0
EachStandsFor h v = (c : Image) → v.may_leave c → StandsFor h c
