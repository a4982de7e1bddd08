-- Which commitments meet which rows in an hour.
use Rattle.std.specs.Prelude.{◌≡◌, ℕ, List, Some, slice_get}
use Rattle.std.specs.Option.{IsSome}
use Rattle.fw_charge.specs.Charge.{Charge}
use Rattle.fw_terms.specs.Commitment.{CommitmentValue}
use Rattle.fw_cover.specs.Applies.{applied}

-- the commitment at a place in the list applies to the row at a place
pub record Meets (cs : List CommitmentValue) (rows : List Charge) (hour place row : ℕ) : Type 0 where
  pub commitment : CommitmentValue
  pub charge : Charge
  pub at_place : slice_get cs place ≡ Some commitment
  pub at_row : slice_get rows row ≡ Some charge
  pub applies : IsSome (applied commitment hour charge)
