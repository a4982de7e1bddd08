-- Making a side anew while the other one stands: it is closed, then filled behind its first byte, then opened. Each step is a
-- write and its sync.
use Rattle.std.specs.Prelude.{◌≡◌, ◌≢◌, ◌⊎◌, ℕ, ◌≤◌, List, [], ◌∷◌, ◌++◌, length, take, drop, get_or}
use Rattle.fw_disk.specs.declared.volume.Side.{Side}
use Rattle.fw_disk.specs.Volume.{Image, View, Settled, Torn, other}
use Rattle.fw_entry_bytes.specs.declared.form.Form.TheVariants.{Two}
use Rattle.fw_charge.specs.Charge.{Charge}
use Rattle.fw_segment.specs.States.{Spells, SpellsJoined}
use Rattle.fw_snapshot.specs.History.{History}
use Rattle.fw_recover.specs.Sides.{made_of}

-- all of a side behind its gate: a header, which is of the second form, a body that spells the warehouse by segments that are joined, and a closed
-- gate behind it
pub record SpellsSide (generation : ℕ) (h : History) (bytes : List ℕ) : Type 0 where
  pub body : List ℕ
  pub spells : Spells body h
  pub segments : List (List Charge)
  pub joined : SpellsJoined body h segments
  pub is : bytes ≡ made_of Two generation body ++ 0 ∷ []

-- nothing is pending
abbrev pub AllSettled : View → Type 0
AllSettled v = (s : Side) → Settled s v

-- an image whose other side is as it reads, and of which this side came from what it reads by a step
pub record Keeps (side : Side) (old : View) (step : List ℕ → List ℕ → Type 0) (c : Image) : Type 0 where
  pub other_stays : c (other side) ≡ old.seen (other side)
  pub this : step (old.seen side) (c side)

-- Closing: nothing is written where a first byte is there that isn't an open gate. A torn write over a closed gate could
-- open it.
abbrev pub Closing : List ℕ → List ℕ → Type 0
Closing old new = (new ≡ old) ⊎ (((length old ≡ 0) ⊎ (get_or old 0 0 ≡ 1)) × Torn 0 1 old new)

-- filling: the first byte is as it was
abbrev pub Filling : List ℕ → List ℕ → Type 0
Filling old new = take 1 new ≡ take 1 old

-- opening: all but the first byte is as it was
abbrev pub Opening : List ℕ → List ℕ → Type 0
Opening old new = Torn 0 1 old new

-- there is a first byte, and it isn't that of an open side
pub record IsShut (file : List ℕ) : Type 0 where
  pub some : 1 ≤ length file
  pub shut : get_or file 0 0 ≢ 1

pub record Closed (side : Side) (old new : View) : Type 0 where
  pub settled : AllSettled new
  pub other_stays : new.seen (other side) ≡ old.seen (other side)
  pub shut : IsShut (new.seen side)

-- the bytes stand behind the first one
pub record Filled (side : Side) (bytes : List ℕ) (old new : View) : Type 0 where
  pub settled : AllSettled new
  pub other_stays : new.seen (other side) ≡ old.seen (other side)
  pub first : take 1 (new.seen side) ≡ take 1 (old.seen side)
  pub tail : List ℕ
  pub behind : drop 1 (new.seen side) ≡ bytes ++ tail

pub record Opened (side : Side) (old new : View) : Type 0 where
  pub settled : AllSettled new
  pub other_stays : new.seen (other side) ≡ old.seen (other side)
  pub is : new.seen side ≡ 1 ∷ drop 1 (old.seen side)

-- a file with these bytes behind some first byte
pub record HasBehind (bytes file : List ℕ) : Type 0 where
  pub byte : ℕ
  pub tail : List ℕ
  pub is : file ≡ byte ∷ (bytes ++ tail)

-- what a side may be while it is made: closing, then not open, then whole behind its gate
pub data Making (bytes old new : List ℕ) : Type 0 where
  closing : Closing old new → Making bytes old new
  shut : get_or new 0 0 ≢ 1 → Making bytes old new
  whole : HasBehind bytes new → Making bytes old new

-- the side is made: it is open, and has these bytes behind its gate
pub record Made (side : Side) (bytes : List ℕ) (old new : View) : Type 0 where
  pub settled : AllSettled new
  pub other_stays : new.seen (other side) ≡ old.seen (other side)
  pub tail : List ℕ
  pub is : new.seen side ≡ 1 ∷ (bytes ++ tail)
