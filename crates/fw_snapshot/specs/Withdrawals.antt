-- Which posts there are, and which of them are withdrawn, place by place.
use Rattle.std.specs.Prelude.{◌≡◌, ◌≢◌, ℕ, List, Some, slice_get}
use Rattle.fw_charge.specs.Charge.{Charge}
use Rattle.fw_entry.specs.Entry.{EntryValue}
use Rattle.fw_entry.specs.Entry.CommandValue.{post, withdraw}

-- one of the entries is the post of this sender and number
pub record HasPost (entries : List EntryValue) (origin : List ℕ) (seq : ℕ) : Type 0 where
  pub place : ℕ
  pub entry : EntryValue
  pub rows : List Charge
  pub stands : slice_get entries place ≡ Some entry
  pub same_origin : entry.origin ≡ origin
  pub same_number : entry.seq ≡ seq
  pub posts : entry.command ≡ post rows

-- one of the entries withdraws the post of this number of its sender
pub record HasWithdrawal (entries : List EntryValue) (origin : List ℕ) (seq : ℕ) : Type 0 where
  pub place : ℕ
  pub entry : EntryValue
  pub stands : slice_get entries place ≡ Some entry
  pub same_origin : entry.origin ≡ origin
  pub withdraws : entry.command ≡ withdraw seq

-- none of the entries withdraws it
abbrev pub NoneWithdraws : List EntryValue → List ℕ → ℕ → Type 0
NoneWithdraws entries origin seq = (place : ℕ) (entry : EntryValue) → slice_get entries place ≡ Some entry → entry.origin ≡ origin → entry.command ≢ withdraw seq
