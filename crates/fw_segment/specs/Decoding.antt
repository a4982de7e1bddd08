-- What a decoder answers: the value, or the place of the first fault, unless memory ran out.
use Rattle.std.specs.Prelude.{◌≡◌, ◌-◌, ℕ, Result, Ok, Err}
use Rattle.fw_segment.specs.declared.fault.DecodeFault.{DecodeFault}
use Rattle.fw_segment.specs.declared.fault.DecodeFault.TheVariants as faults

-- total is the number of bytes, and a fault stands where left of them are still to come
abbrev pub IsAt : {Y : Type 0} → ℕ → DecodeFault → Result Y ℕ → Type 0
IsAt total faults.NoMemory read = Unit {0}
IsAt total (faults.Corrupt at) (Ok y) = ⊥
IsAt total (faults.Corrupt at) (Err left) = at ≡ total - left

abbrev pub Decodes : {X Y : Type 0} → (X → Y) → ℕ → Result X DecodeFault → Result Y ℕ → Type 0
Decodes view total (Ok x) read = read ≡ Ok (view x)
Decodes view total (Err e) read = IsAt total e read
