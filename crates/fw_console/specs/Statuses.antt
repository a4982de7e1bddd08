-- Exit statuses.
use Rattle.std.specs.Prelude.{ℕ}
use Rattle.fw_console.specs.declared.fault.Fault.{Fault}
use Rattle.fw_console.specs.declared.fault.Fault.TheVariants.{Range}

-- where the command line is wrong
abbrev pub wrong_use_status : ℕ
wrong_use_status = 2

-- the status of a fault
unfoldable pub status_of : Fault → ℕ
status_of Range = wrong_use_status
status_of _ = 1
