-- What is said of a volume that keeps no byte: how long its files are.
use Rattle.std.specs.Prelude.{◌≡◌, ℕ, ◌^◌, ◌≤◌, []}
use Rattle.std.proofs.Common.{arith}
use Rattle.fw_disk.specs.declared.volume.Side.{Side}
use Rattle.fw_disk.specs.declared.volume.Side.TheVariants.{Left, Right}
use Rattle.fw_disk.specs.declared.null.NullVolume.{NullVolume}
use Rattle.fw_disk.specs.Files.{most}
use Rattle.fw_disk.specs.Volume.{View}

abbrev pub size_of : NullVolume → Side → ℕ
size_of volume Left = volume.left
size_of volume Right = volume.right

-- lengths and the limit; the device never fails, and all else is open
abbrev pub view_of : NullVolume → View
view_of volume = record {
  seen = λ s. [];
  may_leave = λ c. Unit {0};
  moment = 0;
  left_since = λ t c. Unit {0};
  limit = most;
  size = size_of volume;
  failures = 0;
}

pub sizes_within : (volume : NullVolume) (s : Side) → size_of volume s ≤ most
sizes_within volume Left = volume.left_fits
sizes_within volume Right = volume.right_fits

pub limit_bounded : (volume : NullVolume) → (view_of volume).limit ≤ 2 ^ 40
limit_bounded volume = omega arith
