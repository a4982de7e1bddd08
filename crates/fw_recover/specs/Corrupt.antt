-- Where two files are corrupt: they stand for a warehouse nowhere, but a side is open. The place is a side and an offset in
-- its file: the first one, in the order in which the files are read. That is the header of Left, the header of Right, the two
-- generations, and then of the newer side alone the body and the log, frame by frame.
use Rattle.std.specs.Prelude.{◌≡◌, ◌⊎◌, ℕ, ◌+◌, ◌-◌, ◌<◌, ◌≤◌, List, ◌++◌, length, drop, map, All, Ok, Err}
use Rattle.fw_disk.specs.declared.volume.Side.{Side}
use Rattle.fw_disk.specs.declared.volume.Side.TheVariants.{Left, Right}
use Rattle.fw_disk.specs.Volume.{Image}
use Rattle.fw_entry.specs.Entry.{EntryValue}
use Rattle.fw_entry_bytes.specs.declared.form.Form.{Form}
use Rattle.fw_entry_bytes.specs.Whole.{whole}
use Rattle.fw_journal.specs.Frames.{open_frame, IsFit, IsBroken, Walked}
use Rattle.fw_segment.specs.Groups.{group, group_at, IsGroupOf}
use Rattle.fw_segment.specs.States.{state_at}
use Rattle.fw_snapshot.specs.History.{History}
use Rattle.fw_snapshot.specs.Judging.{IsLegal, IsLegalAfter}
use Rattle.fw_snapshot.specs.Verdicts.{with_more}
use Rattle.fw_recover.specs.Sides.{generation_of, body_of, log_start_of, HasMagic, IsOpen, IsSound}
use Rattle.fw_recover.specs.Stands.{joined, IsNewest, StandsFor, StandsForNone, StandsForEither}

-- the magic word is that of a form
abbrev pub IsSigned : List ℕ → Type 0
IsSigned file = (form : Form) × HasMagic form file

-- the first field of a header that no sound side has: another magic word, generation 0, or a length that puts the first gate
-- past the end
abbrev pub LacksAt : List ℕ → ℕ → Type 0
LacksAt file at =
    ((at ≡ 1) × (IsSigned file → ⊥))
    ⊎ (((at ≡ 9) × IsSigned file × (generation_of file ≡ 0))
    ⊎ ((at ≡ 17) × IsSigned file × (0 < generation_of file) × (length file ≤ log_start_of file)))

-- an open side isn't sound; Left is looked at first
pub record Lacks (c : Image) (side : Side) (at : ℕ) : Type 0 where
  pub is_open : IsOpen (c side)
  pub lacks : LacksAt (c side) at
  pub left_first : side ≡ Right → IsOpen (c Left) → IsSound (c Left)

-- two open sides of one generation: the fault is that of Right
pub record AreTwins (c : Image) (side : Side) (at : ℕ) : Type 0 where
  pub place : (side ≡ Right) × (at ≡ 9)
  pub both : (s : Side) → IsOpen (c s) × IsSound (c s)
  pub same : generation_of (c Left) ≡ generation_of (c Right)

-- a whole frame stands first, and its payload is no group, or one with an entry that isn't accepted after those before it
abbrev pub IsBadFrame : Form → List EntryValue → List ℕ → Type 0
IsBadFrame form entries bytes = (payload : List ℕ) × (rest : List ℕ) × IsFit payload × (bytes ≡ open_frame payload ++ rest)
    × (((left : ℕ) × (whole (group_at form) payload ≡ Err left))
    ⊎ ((es : List EntryValue) × (whole (group_at form) payload ≡ Ok es) × (IsLegalAfter entries es → ⊥)))

-- from the first gate on stand frames of groups that go behind the state, and at `at` neither a closed gate nor the frame of
-- such a group
pub record LogBreaks (form : Form) (state : History) (start at : ℕ) (file : List ℕ) : Type 0 where
  pub walked : Walked start at file
  pub groups : List (List EntryValue)
  pub each : All (IsGroupOf form) groups
  pub payloads : walked.passed ≡ map group groups
  pub legal : IsLegal (state.entries ++ joined groups)
  pub breaks : IsBroken (drop at file) ⊎ IsBadFrame form (state.entries ++ joined groups) (drop at file)

-- the body of a file spells no state, and its first fault is at `at`
pub record BodyBreaks (form : Form) (at : ℕ) (file : List ℕ) : Type 0 where
  pub left : ℕ
  pub read : state_at form (body_of file) ≡ Err left
  pub place : at ≡ 25 + (length (body_of file) - left)

-- the body spells a state, and the log behind it breaks at `at`
pub record BreaksBehind (form : Form) (at : ℕ) (file : List ℕ) : Type 0 where
  pub state : History
  pub read : state_at form (body_of file) ≡ Ok state
  pub log : LogBreaks form state (log_start_of file) at file

-- the newer side breaks in its body or its log
pub record Breaks (c : Image) (side : Side) (at : ℕ) : Type 0 where
  pub newest : IsNewest c side
  pub form : Form
  pub magic_is : HasMagic form (c side)
  pub breaks : BodyBreaks form at (c side) ⊎ BreaksBehind form at (c side)

-- the two files are corrupt at this offset of this side
abbrev pub CorruptAt : Image → Side → ℕ → Type 0
CorruptAt c side at = Lacks c side at ⊎ (AreTwins c side at ⊎ Breaks c side at)

-- the two files stand for a warehouse, or for none, or are corrupt somewhere
abbrev pub HasMeaning : Image → Type 0
HasMeaning c = ((h : History) × StandsFor h c) ⊎ (StandsForNone c ⊎ ((side : Side) × (at : ℕ) × CorruptAt c side at))

-- the files can be opened as the warehouse, or as it with all of these entries, and as nothing else
pub record IsRecovered (h : History) (more : List EntryValue) (c : Image) : Type 0 where
  pub one_of_both : (g : History) → StandsFor g c → (g ≡ h) ⊎ (g ≡ with_more h more)
  pub some : StandsForEither h more c
  pub not_none : StandsForNone c → ⊥
  pub not_corrupt : (side : Side) (at : ℕ) → CorruptAt c side at → ⊥
