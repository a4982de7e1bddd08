-- A volume behind a gate: what can be said of it is what can be said of the volume below.
use Rattle.std.specs.Prelude.{ℕ, ◌+◌, ◌-◌, ◌^◌, min}
use Rattle.fw_disk.specs.Volume.{View}
use Rattle.fw_gate.specs.declared.gate.GateVolume.{GateVolume}

-- a count after one more; it stays at its last value, 2 ^ 64 - 1
abbrev pub one_more : ℕ → ℕ
one_more n = min (n + 1) (2 ^ 64 - 1)

-- the volume below
abbrev pub inner_of : {V G : Type 0} → GateVolume V G → V
inner_of volume = volume.inner

abbrev pub gate_of : {V G : Type 0} → GateVolume V G → G
gate_of volume = volume.gate

abbrev pub view_behind : {V G : Type 0} → (V → View) → GateVolume V G → View
view_behind view volume = view volume.inner
