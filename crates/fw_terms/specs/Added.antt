-- A purchase that is added to a commitment, as plain values.
use Rattle.std.specs.Prelude.{◌≤◌, ℕ, List}
use Rattle.fw_charge.specs.Charge.{IsShortText, last_second}
use Rattle.fw_terms.specs.Commitment.{PurchaseValue}

-- the id of the commitment, and what was paid
pub record AddedValue : Type 0 where
  pub id : List ℕ
  pub purchase : PurchaseValue

-- what each keeps: an id of 1 to 256 bytes, and an instant up to the end of the year 9999
pub record IsAdded (a : AddedValue) : Type 0 where
  pub id : IsShortText a.id
  pub dated : a.purchase.at ≤ last_second

abbrev pub added_value : List ℕ → PurchaseValue → AddedValue
added_value id purchase = record { id = id; purchase = purchase }
