-- Which ids rows and commitments don't share, place by place.
use Rattle.std.specs.Prelude.{◌≡◌, ◌≢◌, ℕ, List, Some, slice_get}
use Rattle.fw_charge.specs.Charge.{Charge, DiscountText}
use Rattle.fw_terms.specs.Commitment.{CommitmentValue}

-- no row carries the id of one of the commitments
abbrev pub NoRowHasIdOf : List Charge → List CommitmentValue → Type 0
NoRowHasIdOf rows commitments = (i j : ℕ) (row : Charge) (discount : DiscountText) (c : CommitmentValue)
    → slice_get rows i ≡ Some row → row.discount ≡ Some discount → slice_get commitments j ≡ Some c → discount.id ≢ c.id

-- no commitment of the list has this id
abbrev pub NoneHasId : List CommitmentValue → List ℕ → Type 0
NoneHasId commitments id = (place : ℕ) (other : CommitmentValue) → slice_get commitments place ≡ Some other → other.id ≢ id

-- no commitment of the list has the id of this one
abbrev pub NoneHasIdOf : List CommitmentValue → CommitmentValue → Type 0
NoneHasIdOf commitments c = NoneHasId commitments c.id

-- one of the commitments has this id
pub record HasId (commitments : List CommitmentValue) (id : List ℕ) : Type 0 where
  pub place : ℕ
  pub commitment : CommitmentValue
  pub stands : slice_get commitments place ≡ Some commitment
  pub same : id ≡ commitment.id
