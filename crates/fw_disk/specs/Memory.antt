-- A volume in memory keeps its bytes as they are now and a record of its calls. Each write in that record has the
-- bytes that it replaced, so what the files held at any earlier moment follows from the bytes now: the writes after
-- that moment are taken back, the newest first. In this file a list of calls or of writes has the newest first.
use Rattle.std.specs.Prelude.{◌≡◌, ◌⊎◌, ℕ, ◌+◌, ◌-◌, ◌<◌, ◌≤◌, Bool, true, false, nat_lt, nat_le, ◌&&◌, ◌||◌, min, List, [], ◌∷◌, ◌++◌, length, map, take, drop, slice_index, if◌then◌else◌, IsTrue, IsFalse, refl}
use Rattle.std.specs.Coded.{×_prop, Unit-prop, le_prop, Coded-set, coded_ℕ}
use mathlib.Core.Logic.{inl, inr}
use Rattle.std.proofs.Common.{arith}
use Rattle.fw_disk.specs.declared.volume.Side.{Side}
use Rattle.fw_disk.specs.declared.volume.Side.TheVariants.{Left, Right}
use Rattle.fw_disk.specs.declared.calls.Call.{Call}
use Rattle.fw_disk.specs.declared.calls.Call.TheVariants.{Write, Sync}
use Rattle.fw_disk.specs.declared.calls.Overwrite.{Overwrite}
use Rattle.fw_disk.specs.declared.memory.Choice.{Choice}
use Rattle.fw_disk.specs.declared.memory.Choice.TheVariants.{Old, New, Torn as Torn_to}
use Rattle.fw_disk.specs.Volume.{Image, View, Torn, other}

-- both files, by side
abbrev pub files : List ℕ → List ℕ → Image
files left right Left = left
files left right Right = right

-- whether two sides are one
abbrev pub is_same : Side → Side → Bool
is_same Left Left = true
is_same Left Right = false
is_same Right Left = false
is_same Right Right = true

-- a write of n bytes, with the bytes that it replaced: fewer than n where it went past the end
pub record Span : Type 0 where
  pub at : ℕ
  pub n : ℕ
  pub saved : List ℕ

-- a write of the record as plain data
abbrev pub span : Overwrite → Span
span write = record { at = write.at; n = write.len; saved = write.saved.items }

-- the file before the write
abbrev pub undone : List ℕ → Span → List ℕ
undone file w = take w.at file ++ w.saved ++ drop (w.at + w.n) file

-- the file before all of these writes
abbrev pub undone_all : List ℕ → List Span → List ℕ
undone_all file [] = file
undone_all file (w ∷ ws) = undone_all (undone file w) ws

-- the file of a side before a call
abbrev pub before : Side → Call → List ℕ → List ℕ
before side (Write write) file = if is_same write.side side then undone file (span write) else file
before side (Sync s) file = file

-- the writes of a side since its last sync
abbrev pub pending : Side → List Call → List Span
pending side [] = []
pending side (Write write ∷ calls) = if is_same write.side side then span write ∷ pending side calls else pending side calls
pending side (Sync s ∷ calls) = if is_same s side then [] else pending side calls

-- what a crash may leave of a file with these pending writes: all of them as they are, or the newest torn
-- over what it may have left before
abbrev pub LeavesFile : List ℕ → List Span → List ℕ → Type 0
LeavesFile file [] c = c ≡ file
LeavesFile file (w ∷ ws) c = (c ≡ file) ⊎ ((d : List ℕ) × LeavesFile (undone file w) ws d × Torn w.at w.n d c)

-- what a crash now may leave of both files
abbrev pub Leaves : List ℕ → List ℕ → List Call → Image → Type 0
Leaves left right calls c = LeavesFile left (pending Left calls) (c Left) × LeavesFile right (pending Right calls) (c Right)

-- what a crash might have left after an earlier call, from the moment t on
abbrev pub Earlier : List ℕ → List ℕ → List Call → ℕ → Image → Type 0
Earlier left right [] t c = ⊥
Earlier left right (call ∷ calls) t c = (t ≤ length calls) × (Leaves (before Left call left) (before Right call right) calls c ⊎ Earlier (before Left call left) (before Right call right) calls t c)

-- what can be said of a volume with these bytes and this record; the moment is the number of calls in the record
abbrev pub memory_view : List ℕ → List ℕ → List Call → ℕ → ℕ → View
memory_view left right calls limit failures = record {
  seen = files left right;
  may_leave = Leaves left right calls;
  moment = length calls;
  left_since = λ t c. Leaves left right calls c ⊎ Earlier left right calls t c;
  limit = limit;
  size = λ s. length (files left right s);
  failures = failures;
}

-- The laws of a volume. The ghost members of the volume in memory cite them, so they stand here.

pub leaves_itself : (file : List ℕ) (ws : List Span) → LeavesFile file ws file
leaves_itself file [] = refl
leaves_itself file (w ∷ ws) = inl refl

pub stays_itself : (left right : List ℕ) (calls : List Call) → Leaves left right calls (files left right)
stays_itself left right calls = (leaves_itself left (pending Left calls), leaves_itself right (pending Right calls))

none_earlier : (left right : List ℕ) (calls : List Call) (c : Image) → Earlier left right calls (length calls) c → ⊥
none_earlier left right [] c earlier = earlier
none_earlier left right (call ∷ calls) c earlier = let le : length (call ∷ calls) ≤ length calls = earlier.0 in omega arith

pub none_since : (left right : List ℕ) (calls : List Call) (c : Image) → Leaves left right calls c ⊎ Earlier left right calls (length calls) c → Leaves left right calls c
none_since left right calls c (inl now) = now
none_since left right calls c (inr earlier) = absurd (none_earlier left right calls c earlier)

pub sides_within : (left right : List ℕ) (limit : ℕ) → length left ≤ limit → length right ≤ limit → (s : Side) → length (files left right s) ≤ limit
sides_within left right limit l r Left = l
sides_within left right limit l r Right = r

-- What the type keeps in its ghost fields.

-- how long a file of this length was before the write
abbrev pub length_before : ℕ → Span → ℕ
length_before len w = w.at + length w.saved + (len - (w.at + w.n))

-- a file of this length has the range of the write, and what the write replaced is what there was of the range
abbrev pub Fits : ℕ → Span → Type 0
Fits len w = (w.at + w.n ≤ len) × (length w.saved ≡ min w.n (length_before len w - w.at))

-- these writes can be taken back from a file of this length
abbrev pub AllFit : ℕ → List Span → Type 0
AllFit len [] = Unit {0}
AllFit len (w ∷ ws) = Fits len w × AllFit (length_before len w) ws

pub AllFit-prop : (len : ℕ) (ws : List Span) → IsProp (AllFit len ws)
AllFit-prop len [] = Unit-prop
AllFit-prop len (w ∷ ws) = ×_prop (×_prop le_prop (Coded-set coded_ℕ (length w.saved) (min w.n (length_before len w - w.at)))) (AllFit-prop (length_before len w) ws)

-- how many syncs record something: one for each side with pending writes
abbrev pub due : List Span → ℕ
due [] = 0
due (w ∷ ws) = 1

-- for how many syncs the record needs room
abbrev pub syncs_due : List Call → ℕ
syncs_due calls = due (pending Left calls) + due (pending Right calls)

-- What a stop leaves.

-- so many places from an offset on
pub record Range : Type 0 where
  pub at : ℕ
  pub n : ℕ

-- a file: what it held after its last sync, what it reads as, and the ranges written in between
pub record FileState : Type 0 where
  pub synced : List ℕ
  pub seen : List ℕ
  pub unsynced : List Range

-- the range of a write
abbrev pub range : Span → Range
range w = record { at = w.at; n = w.n }

-- a file with these pending writes
abbrev pub file_state : List ℕ → List Span → FileState
file_state file ws = record { synced = undone_all file ws; seen = file; unsynced = map range ws }

-- a file of which nothing is unsynced
abbrev pub all_synced : List ℕ → FileState
all_synced bytes = record { synced = bytes; seen = bytes; unsynced = [] }

-- a write of n bytes was done: its range is unsynced from then on
pub record AddsRange (side : Side) (at n : ℕ) (old new : Side → FileState) : Type 0 where
  pub synced : (new side).synced ≡ (old side).synced
  pub unsynced : (new side).unsynced ≡ record { at = at; n = n } ∷ (old side).unsynced
  pub other_stays : new (other side) ≡ old (other side)

-- a sync was done: nothing of the side is unsynced from then on
pub record Syncs (side : Side) (old new : Side → FileState) : Type 0 where
  pub synced : new side ≡ all_synced (old side).seen
  pub other_stays : new (other side) ≡ old (other side)

-- whether a place lies in one of the ranges
abbrev pub is_within : List Range → ℕ → Bool
is_within [] i = false
is_within (r ∷ rs) i = (nat_le r.at i && nat_lt i (r.at + r.n)) || is_within rs i

-- What a crash may leave of a file, said at once: the end is anywhere between the synced one and the one now, what was
-- synced stays outside the ranges, and all else may hold any bytes.
pub record Outcome (file : FileState) (left : List ℕ) : Type 0 where
  pub no_shorter : length file.synced ≤ length left
  pub no_longer : length left ≤ length file.seen
  pub stays : (i : ℕ) → i < length file.synced → IsFalse (is_within file.unsynced i) → slice_index left i ≡ slice_index file.synced i

-- new is as long as old, has this byte in each of the ranges, and is old elsewhere
pub record Filled (byte : ℕ) (ranges : List Range) (old new : List ℕ) : Type 0 where
  pub len : length new ≡ length old
  pub filled : (i : ℕ) → i < length old → IsTrue (is_within ranges i) → slice_index new i ≡ byte
  pub stays : (i : ℕ) → i < length old → IsFalse (is_within ranges i) → slice_index new i ≡ slice_index old i

-- what a stop leaves of a file: what it held after its last sync, what it reads as, or this with each unsynced byte replaced
abbrev pub LeftBy : Choice → FileState → List ℕ → Type 0
LeftBy Old file left = left ≡ file.synced
LeftBy New file left = left ≡ file.seen
LeftBy (Torn_to byte) file left = Filled byte file.unsynced file.seen left
