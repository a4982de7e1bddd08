-- The rows that were posted, and which of them count.
use Rattle.std.specs.Prelude.{Bool, List}
use Rattle.fw_charge.specs.Charge.{Charge}

-- the rows in segments, and for each row of all segments, in order, whether it counts
pub record PostedValue : Type 0 where
  pub segments : List (List Charge)
  pub counts : List Bool
