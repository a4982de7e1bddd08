-- What a log is on its volume, and what an append leaves of it.
use Rattle.std.specs.Prelude.{◌≡◌, ◌≢◌, ◌⊎◌, ℕ, ◌+◌, ◌<◌, ◌≤◌, Bool, false, IsTrue, List, [], ◌∷◌, ◌++◌, length, take, drop, Option, Some, None, Vec, max}
use Rattle.std.specs.declared.alloc.Global.{Global}
use Rattle.fw_disk.specs.declared.volume.Side.{Side}
use Rattle.fw_disk.specs.Volume.{Image, View, Settled, other}
use Rattle.fw_journal.specs.Frames.{open_frame, spelled, IsFit, Tells}

-- a log: its side, its first gate, its first closed gate, and whether an append has failed
pub record LogState : Type 0 where
  pub side : Side
  pub start : ℕ
  pub end : ℕ
  pub failed : Bool

-- a log that has these payloads, all of them on the disk
pub record Stands (log : LogState) (payloads : List (List ℕ)) (v : View) : Type 0 where
  pub tells : Tells payloads (drop log.start (v.seen log.side))
  pub end : log.end ≡ log.start + length (spelled payloads)
  pub settled : Settled log.side v

-- what every append asks for
pub record IsReady (tells : Bool) (log : LogState) (v : View) : Type 0 where
  pub room : log.end < v.size log.side
  pub told : IsTrue tells → log.failed ≡ false → (payloads : List (List ℕ)) × Stands log payloads v

-- the other file is one that a crash at the call might have left
abbrev pub HasOther : Side → View → Image → Type 0
HasOther side old c = (d : Image) × old.may_leave d × (c (other side) ≡ d (other side))

-- An image in which the log has the payloads, or these and one more. The bytes before the first gate are as they were,
-- and behind the first closed gate there may be anything.
pub record Appends (log : LogState) (payloads : List (List ℕ)) (payload : List ℕ) (old : View) (c : Image) : Type 0 where
  pub other_side : HasOther log.side old c
  pub before : take log.start (c log.side) ≡ take log.start (old.seen log.side)
  pub tells : Tells payloads (drop log.start (c log.side)) ⊎ Tells (payloads ++ payload ∷ []) (drop log.start (c log.side))

-- the file of a side may have grown, up to `end` at most
pub record Lengthens (side : Side) (end : ℕ) (old new : View) : Type 0 where
  pub limit : new.limit ≡ old.limit
  pub other_stays : new.size (other side) ≡ old.size (other side)
  pub no_shorter : old.size side ≤ new.size side
  pub no_longer : new.size side ≤ max (old.size side) end

-- a file with its front up to a gate and any byte at the gate, and then a frame
pub record Gated (gate : ℕ) (frame old new : List ℕ) : Type 0 where
  pub byte : ℕ
  pub tail : List ℕ
  pub before : take gate new ≡ take gate old
  pub behind : drop gate new ≡ byte ∷ (frame ++ tail)

-- an image while a frame is written: as it was up to the gate and at it, or whole behind the gate
pub record WhileFraming (side : Side) (gate : ℕ) (frame : List ℕ) (old : View) (c : Image) : Type 0 where
  pub other_side : HasOther side old c
  pub file : (take (gate + 1) (c side) ≡ take (gate + 1) (old.seen side)) ⊎ Gated gate frame (old.seen side) (c side)

-- the frame stands, and its gate is open
pub record Framed (side : Side) (gate : ℕ) (frame : List ℕ) (old new : View) : Type 0 where
  pub tail : List ℕ
  pub before : take gate (new.seen side) ≡ take gate (old.seen side)
  pub behind : drop gate (new.seen side) ≡ 1 ∷ (frame ++ tail)
  pub settled : Settled side new

-- what stands at a gate: it is closed, or the next gate is behind its frame
abbrev pub LeadsTo : ℕ → List ℕ → Option ℕ → Type 0
LeadsTo gate bytes None = (byte : ℕ) × (rest : List ℕ) × (bytes ≡ byte ∷ rest) × (byte ≢ 1)
LeadsTo gate bytes (Some next) = (payload : List ℕ) × (rest : List ℕ) × IsFit payload × (bytes ≡ open_frame payload ++ rest) × (next ≡ gate + 5 + length payload)

-- what stands at a gate: it is closed, or the payload of its frame, and the gate behind the frame
abbrev pub IsFrameAt : ℕ → List ℕ → Option (Vec ℕ Global × ℕ) → Type 0
IsFrameAt gate bytes None = (byte : ℕ) × (rest : List ℕ) × (bytes ≡ byte ∷ rest) × (byte ≢ 1)
IsFrameAt gate bytes (Some frame) = (rest : List ℕ) × IsFit frame.0.items × (bytes ≡ open_frame frame.0.items ++ rest) × (frame.1 ≡ gate + 5 + length frame.0.items)
