-- A fault's place, from the front and from the end.
use Rattle.std.specs.Prelude.{◌-◌, ℕ}
use Rattle.fw_bytes.specs.declared.fault.ReadError.{ReadError}
use Rattle.fw_bytes.specs.declared.fault.ReadError.TheVariants as errors
use Rattle.fw_segment.specs.declared.fault.DecodeFault.{DecodeFault}
use Rattle.fw_segment.specs.declared.fault.DecodeFault.TheVariants as faults

-- the fault of bytes of which so many there are in all
abbrev pub fault_of : ℕ → ReadError → DecodeFault
fault_of total errors.NoMemory = faults.NoMemory
fault_of total (errors.Corrupt left) = faults.Corrupt (total - left)
