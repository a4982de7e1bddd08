-- Lines that are added to the end of others. The private functions of `lines` cite it; what the lines are is said without it.
use Rattle.std.specs.Prelude.{◌≡◌, ◌<◌, ◌≤◌, ◌^◌, ℕ, List, ◌++◌, All}
use Rattle.std.specs.List.{flat_map, AllZip}
use Rattle.fw_charge.specs.Charge.{Charge}
use Rattle.fw_terms.specs.Commitment.{CommitmentValue}
use Rattle.fw_cover.specs.declared.taken.Taken.{Taken}
use Rattle.fw_amortise.specs.LineValue.{LineValue}
use Rattle.fw_amortise.specs.Lines.{AreCommitmentLines, AreLinesAt}

-- a take names one of so many rows, and its quantity is within the range of nanos
pub record IsTakeOf (rows : ℕ) (t : Taken) : Type 0 where
  pub row : t.row < rows
  pub quantity : t.quantity ≤ 10 ^ 17

abbrev pub AreTakesOf : ℕ → List Taken → Type 0
AreTakesOf rows takes = All (IsTakeOf rows) takes

-- the lines of a commitment were added
pub record AddsCommitment (hour : ℕ) (c : CommitmentValue) (rows : List Charge) (takes : List Taken) (unused : ℕ) (old new : List LineValue) : Type 0 where
  pub own : List LineValue
  pub are_lines : AreCommitmentLines hour c rows takes unused own
  pub added : new ≡ old ++ own

-- the lines of some commitments were added, one commitment after another
pub record AddsShared (cs : List CommitmentValue) (rows : List Charge) (taken : List Taken) (hour : ℕ) (some : List (ℕ × CommitmentValue)) (old new : List LineValue) : Type 0 where
  pub shared : List (List LineValue)
  pub are_shared : AllZip (AreLinesAt cs rows taken hour) some shared
  pub added : new ≡ old ++ flat_map (λ ls. ls) shared
