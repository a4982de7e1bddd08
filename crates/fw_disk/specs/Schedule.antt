-- Which of its later calls a volume fails, and what a failing write does to the volume below.
use Rattle.std.specs.Prelude.{◌==◌, ℕ, ◌+◌, ◌-◌, ◌^◌, min, Bool, true, false, nat_le, nat_lt, ◌&&◌, ◌||◌, List, [], ◌∷◌, reverse, Some, None, IsTrue, IsErrOf, OnOk, Result}
use Rattle.fw_disk.specs.declared.volume.Side.{Side}
use Rattle.fw_disk.specs.declared.volume.VolumeFault.{VolumeFault}
use Rattle.fw_disk.specs.declared.volume.VolumeFault.TheVariants.{TooLarge}
use Rattle.fw_disk.specs.declared.fault.Mode.{Mode}
use Rattle.fw_disk.specs.declared.fault.Mode.TheVariants.{Once, After}
use Rattle.fw_disk.specs.declared.fault.Plan.{Plan}
use Rattle.fw_disk.specs.declared.fault.Plan.TheVariants.{Passing, Failing, Done, Series}
use Rattle.fw_disk.specs.declared.fault.FaultVolume.{FaultVolume}
use Rattle.fw_disk.specs.Volume.{View, Holds, HasCause}

-- whether the call that comes after k others fails
abbrev pub Schedule : Type 0
Schedule = ℕ → Bool

-- so many calls pass; then one fails, or each
abbrev pub fails_after : ℕ → Mode → Schedule
fails_after pass Once k = k == pass
fails_after pass After k = nat_le pass k

-- the first number of calls pass, one fails, the second number pass, one fails, and so on; then none fails
abbrev pub fails_between : List ℕ → Schedule
fails_between [] k = false
fails_between (pass ∷ more) k = (k == pass) || (nat_lt pass k && fails_between more (k - (pass + 1)))

-- by a plan as it stands; the further numbers of a series are kept with the next one last
abbrev pub schedule : Plan → Schedule
schedule (Passing pass mode) k = fails_after pass mode k
schedule Failing k = true
schedule Done k = false
schedule (Series None more) k = false
schedule (Series (Some pass) more) k = fails_between (pass ∷ reverse more.items) k

-- whether a plan is a series, which goes on after a stop
abbrev pub is_series : Plan → Bool
is_series (Series pass more) = true
is_series (Passing pass mode) = false
is_series Failing = false
is_series Done = false

-- after a stop: a series goes on, and otherwise none fails
abbrev pub stopped : Bool → Schedule → Schedule
stopped true calls k = calls k
stopped false calls k = false

-- of a volume
abbrev pub schedule_of : {V : Type 0} → FaultVolume V → Schedule
schedule_of volume = schedule volume.plan

abbrev pub is_series_of : {V : Type 0} → FaultVolume V → Bool
is_series_of volume = is_series volume.plan

-- the volume below
abbrev pub inner_of : {V : Type 0} → FaultVolume V → V
inner_of volume = volume.inner

-- how many calls it failed; the count stays at its last value, 2 ^ 64 - 1
abbrev pub failed_of : {V : Type 0} → FaultVolume V → ℕ
failed_of volume = volume.failures

-- the count after a call, which failed or not
abbrev pub failed_more : Bool → ℕ → ℕ
failed_more true failed = min (failed + 1) (2 ^ 64 - 1)
failed_more false failed = failed

-- what can be said of the volume: its own failures count beside those of the volume below
abbrev pub view_over : {V : Type 0} → (V → View) → FaultVolume V → View
view_over view volume = record (view volume.inner) { failures = min ((view volume.inner).failures + volume.failures) (2 ^ 64 - 1) }

-- a volume was written, with an answer that may be kept from the caller
pub record Reaches (tells : Bool) (side : Side) (at : ℕ) (bytes : List ℕ) (old new : View) : Type 0 where
  pub answer : Result (Unit {0}) VolumeFault
  pub written : OnOk answer (IsTrue tells → Holds at bytes (old.seen side) (new.seen side))
  pub cause : HasCause old new answer
  pub fits : IsErrOf answer TooLarge → ⊥
