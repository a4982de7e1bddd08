-- What is said of a volume of real files: how long they are by count, and which have failed. What they hold is not said.
use Rattle.std.specs.Prelude.{◌≡◌, ℕ, ◌^◌, ◌≤◌, Option, Bool, false, [], Result, IsTrue, IsSome, IsErrOf, OnOk}
use Rattle.std.proofs.Common.{arith}
use Rattle.std.proofs.lemmas.Bool.{false≢true}
use Rattle.std.specs.declared.io.Error.{Error}
use Rattle.fw_disk.specs.declared.volume.Side.{Side}
use Rattle.fw_disk.specs.declared.volume.Side.TheVariants.{Left, Right}
use Rattle.fw_disk.specs.declared.volume.VolumeFault.{VolumeFault}
use Rattle.fw_disk.specs.declared.volume.VolumeFault.TheVariants.{Io}
use Rattle.fw_disk.specs.declared.file.DataFile.{DataFile}
use Rattle.fw_disk.specs.declared.file.FileVolume.{FileVolume}
use Rattle.fw_disk.specs.Volume.{View, other}

-- each of the files
abbrev pub file_of : FileVolume → Side → DataFile
file_of volume Left = volume.left
file_of volume Right = volume.right

-- the largest length of a file
abbrev pub most : ℕ
most = 2 ^ 40

-- lengths, the limit and the count of failures; all else is open
abbrev pub view_of : FileVolume → View
view_of volume = record {
  seen = λ s. [];
  may_leave = λ c. Unit {0};
  moment = 0;
  left_since = λ t c. Unit {0};
  limit = most;
  size = λ s. (file_of volume s).len;
  failures = volume.failures;
}

pub sizes_within : (volume : FileVolume) (s : Side) → (file_of volume s).len ≤ most
sizes_within volume Left = volume.left.fits
sizes_within volume Right = volume.right.fits

pub limit_bounded : (volume : FileVolume) → (view_of volume).limit ≤ 2 ^ 40
limit_bounded volume = omega arith

-- of a volume that doesn't tell its bytes everything about them holds
pub none_told : {A : Type 0} → IsTrue false → A
none_told told = absurd (false≢true told)

-- why the first write or sync of a file failed, where one has
abbrev pub failure_of : FileVolume → Side → Option Error
failure_of volume s = (file_of volume s).failure

-- whether a file was opened to be read alone
abbrev pub reads_only : FileVolume → Side → Bool
reads_only volume s = (file_of volume s).reads_only

-- What a write or a sync does to this: a file of which one failed fails each later one, for the same reason.
pub record Marks (side : Side) (old new : FileVolume) (result : Result (Unit {0}) VolumeFault) : Type 0 where
  pub marked : IsErrOf result Io → IsSome (failure_of new side)
  pub refused : IsSome (failure_of old side) → IsErrOf result Io × (failure_of new side ≡ failure_of old side)
  pub done : OnOk result (failure_of new side ≡ failure_of old side)
  pub other_stays : failure_of new (other side) ≡ failure_of old (other side)
