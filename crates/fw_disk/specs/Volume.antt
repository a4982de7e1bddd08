-- The disk model: what the calls of a volume do to its two files, and what a crash may leave of them.
--
-- Between two syncs of a file, a crash may leave any bytes in each range that was written, and any bytes past the old
-- end; it may leave the end anywhere between the old and the new one. All other bytes stay. In this file that is said
-- write by write: `Torn` is one write of which a crash left any part, and what a crash may leave after a write is a torn
-- write over what it could leave before (`Follows`). So several writes tear one over the other, each range may hold any
-- bytes, and the end may lie between any two of the ends. A write that tore nothing, or all of it, is torn too.
--
-- A write that failed is a torn write as well, also in what a read gives (`Writes`). A read and a sync, failed or done,
-- change no byte and add no image (`Quiet`). After a sync that was done each image of the file is what a read gives
-- (`Settled`).
--
-- A crash leaves both files together: an image has both. Time is counted in moments, and no call takes it back. What a
-- crash left at some moment since t is what it left at one of the earlier moments, or what it may leave now: in one
-- call nothing else comes (`Elapses`), so a crash within a call leaves what it could leave before or can leave after.
-- Over several calls, `LeavesOnly` says what each image has since the first began.
--
-- A fault of the device comes only where the count of failures rose (`HasCause`); a count at 2 ^ 64 - 1, its last value,
-- stays and counts as risen (`Rose`).
use Rattle.std.specs.Prelude.{◌≡◌, ◌⊎◌, ℕ, ◌+◌, ◌-◌, ◌^◌, ◌≤◌, min, max, List, ◌++◌, length, take, drop, Result, IsErrOf, OnOk}
use Rattle.fw_disk.specs.declared.volume.Side.{Side}
use Rattle.fw_disk.specs.declared.volume.Side.TheVariants.{Left, Right}
use Rattle.fw_disk.specs.declared.volume.VolumeFault.{VolumeFault}
use Rattle.fw_disk.specs.declared.volume.VolumeFault.TheVariants.{Io}

-- the other file
abbrev pub other : Side → Side
other Left = Right
other Right = Left

-- What both files hold at one moment. The numbers stand for bytes; that they are below 256 isn't said, as nothing rests
-- on it: what holds of each image with any numbers holds of each with bytes.
abbrev pub Image : Type 0
Image = Side → List ℕ

-- what can be said of a volume
pub record View : Type 1 where
  -- what a read gives
  pub seen : Image
  -- what a crash now may leave
  pub may_leave : Image → Type 0
  -- the moment; no call lowers it but a stop, which begins anew
  pub moment : ℕ
  -- what a crash at some moment from that one on might have left, within a call or between two
  pub left_since : ℕ → Image → Type 0
  pub limit : ℕ
  pub size : Side → ℕ
  -- how often the device has failed in a call, a write past the limit not counted; it stays at its last value, 2 ^ 64 - 1
  pub failures : ℕ

-- the bytes from an offset on; how many is told by the slice, which keeps its length in a call
abbrev pub Returns : ℕ → List ℕ → List ℕ → Type 0
Returns at file bytes = bytes ≡ take (length bytes) (drop at file)

-- new is old with these bytes at this offset
abbrev pub Holds : ℕ → List ℕ → List ℕ → List ℕ → Type 0
Holds at bytes old new = new ≡ take at old ++ bytes ++ drop (at + length bytes) old

-- A write of n bytes that a crash cuts short: any bytes in the range, which is also all that lies past the old end; the
-- same elsewhere; the end anywhere between the old and the new one. A file that ends before the range stays as it is.
pub record Torn (at n : ℕ) (old new : List ℕ) : Type 0 where
  pub before : take at new ≡ take at old
  pub after : drop (at + n) new ≡ drop (at + n) old
  pub no_shorter : length old ≤ length new
  pub no_longer : length new ≤ max (length old) (at + n)

-- the same for an image: the other file stays
pub record TornSide (side : Side) (at n : ℕ) (old new : Image) : Type 0 where
  pub torn : Torn at n (old side) (new side)
  pub other_stays : new (other side) ≡ old (other side)

-- each new outcome of a crash is an old outcome after a step
abbrev pub Follows : (Image → Image → Type 0) → (Image → Type 0) → (Image → Type 0) → Type 0
Follows step old new = (c : Image) → new c → (d : Image) × old d × step d c

-- each old outcome of a crash after a step is a new outcome
abbrev pub Allows : (Image → Image → Type 0) → (Image → Type 0) → (Image → Type 0) → Type 0
Allows step old new = (d c : Image) → old d → step d c → new c

-- Time goes on: a crash since t might have left what it might have left before, or what it may leave now.
pub record Elapses (old new : View) : Type 0 where
  pub later : old.moment ≤ new.moment
  pub nothing_else : (t : ℕ) (c : Image) → t ≤ old.moment → new.left_since t c → old.left_since t c ⊎ new.may_leave c
  pub keeps : (t : ℕ) (c : Image) → t ≤ old.moment → old.left_since t c → new.left_since t c

-- no byte changes and no image comes
pub record Quiet (old new : View) : Type 0 where
  pub seen : (s : Side) → new.seen s ≡ old.seen s
  pub crash : (c : Image) → new.may_leave c → old.may_leave c
  pub time : Elapses old new

-- what a write leaves, done or not
pub record Writes (side : Side) (at n : ℕ) (old new : View) : Type 0 where
  pub seen : TornSide side at n old.seen new.seen
  pub crash : Follows (TornSide side at n) old.may_leave new.may_leave
  pub time : Elapses old new

-- what a crash could leave before, it can leave after: nothing that was pending is settled
abbrev pub StaysPending : View → View → Type 0
StaysPending old new = (c : Image) → old.may_leave c → new.may_leave c

-- the same but for one side, of which a sync may have settled any part: where an image has of that side what is read,
-- a crash can leave it after too
abbrev pub SettlesOnly : Side → View → View → Type 0
SettlesOnly side old new = (c : Image) → old.may_leave c → c side ≡ old.seen side → new.may_leave c

-- what of the other file a crash could leave before, it can leave after: what was pending there still is
abbrev pub KeepsOther : Side → View → View → Type 0
KeepsOther side old new = (d : Image) → old.may_leave d → (c : Image) × new.may_leave c × (c (other side) ≡ d (other side))

-- nothing is pending on a side
abbrev pub Settled : Side → View → Type 0
Settled side v = (c : Image) → v.may_leave c → c side ≡ v.seen side

-- the lengths and the limit stay
pub record SameSizes (old new : View) : Type 0 where
  pub limit : new.limit ≡ old.limit
  pub size : (s : Side) → new.size s ≡ old.size s

-- what a write does to the lengths, done or not; the limit stays
pub record Grows (side : Side) (at n : ℕ) (old new : View) (result : Result (Unit {0}) VolumeFault) : Type 0 where
  pub limit : new.limit ≡ old.limit
  pub other_stays : new.size (other side) ≡ old.size (other side)
  pub no_shorter : old.size side ≤ new.size side
  pub no_longer : new.size side ≤ max (old.size side) (at + n)
  pub whole : OnOk result (new.size side ≡ max (old.size side) (at + n))

-- the count rose, where one at its last value counts as risen
abbrev pub Rose : ℕ → ℕ → Type 0
Rose old new = min (old + 1) (2 ^ 64 - 1) ≤ new

-- `Io` is answered only where the count rose in the call
pub record HasCause (old new : View) (result : Result (Unit {0}) VolumeFault) : Type 0 where
  pub later : old.failures ≤ new.failures
  pub failed : IsErrOf result Io → Rose old.failures new.failures

-- A crash at any moment since old leaves an image that has P.
pub record LeavesOnly (old new : View) (P : Image → Type 0) : Type 0 where
  pub later : old.moment ≤ new.moment
  pub each : (c : Image) → new.left_since old.moment c → P c
  -- for a run that began earlier
  pub before : (t : ℕ) (c : Image) → t ≤ old.moment → new.left_since t c → old.left_since t c ⊎ P c

-- an image of the volume, after a write of n bytes that a crash may have cut short
abbrev pub TornFrom : Side → ℕ → ℕ → View → Image → Type 0
TornFrom side at n old c = (d : Image) × old.may_leave d × TornSide side at n d c

-- Reading and syncing: no byte changes, and a crash at any moment since old leaves an image that it could leave then.
pub record Calm (old new : View) : Type 0 where
  pub seen : (s : Side) → new.seen s ≡ old.seen s
  pub crash : (c : Image) → new.may_leave c → old.may_leave c
  pub run : LeavesOnly old new old.may_leave

-- a write and a sync that were done
pub record Synced (side : Side) (at : ℕ) (bytes : List ℕ) (old new : View) : Type 0 where
  pub holds : Holds at bytes (old.seen side) (new.seen side)
  pub other_stays : new.seen (other side) ≡ old.seen (other side)
  pub settled : Settled side new
  -- the other side's images are among those at the start
  pub from : (c : Image) → new.may_leave c → (d : Image) × old.may_leave d × (c (other side) ≡ d (other side))

-- one volume reads as another, and a crash leaves of it what it leaves of the other
pub record Shows (inner outer : View) : Type 0 where
  pub seen : (s : Side) → outer.seen s ≡ inner.seen s
  pub fewer : (c : Image) → outer.may_leave c → inner.may_leave c
  pub more : (c : Image) → inner.may_leave c → outer.may_leave c
  pub limit : outer.limit ≡ inner.limit
  pub size : (s : Side) → outer.size s ≡ inner.size s
