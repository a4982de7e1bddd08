-- The names under which the fields of a commitment stand, and those of a purchase that is added to one.
use Rattle.std.specs.Prelude.{ℕ, List, [], ◌∷◌, codes}
use Rattle.fw_charge.specs.declared.discount.DiscountKind.{DiscountKind}
use Rattle.fw_charge.specs.declared.discount.DiscountKind.TheVariants as kind
use Rattle.fw_commitment.specs.declared.fault.CommitmentField.{CommitmentField}
use Rattle.fw_commitment.specs.declared.fault.CommitmentField.TheVariants as field

-- the name of a field; that of what no field has is `unknown`
abbrev pub name_of : CommitmentField → List ℕ
name_of field.Id = codes "id"
name_of field.Category = codes "category"
name_of field.Start = codes "start"
name_of field.Hours = codes "hours"
name_of field.Capacity = codes "capacity"
name_of field.Unit = codes "unit"
name_of field.Skus = codes "skus"
name_of field.Rates = codes "rates"
name_of field.SubAccount = codes "sub_account"
name_of field.Tags = codes "tags"
name_of field.Purchase = codes "purchase"
name_of field.At = codes "at"
name_of field.Billed = codes "billed"
name_of field.Unknown = codes "unknown"

-- the names that may stand in a commitment of a kind
abbrev pub names_of : DiscountKind → List (List ℕ)
names_of kind.Usage =
    codes "id" ∷ codes "category" ∷ codes "start" ∷ codes "hours" ∷ codes "capacity" ∷ codes "unit" ∷ codes "skus" ∷ codes "sub_account" ∷ codes "tags" ∷ codes "purchase" ∷ []
names_of kind.Spend =
    codes "id" ∷ codes "category" ∷ codes "start" ∷ codes "hours" ∷ codes "capacity" ∷ codes "rates" ∷ codes "sub_account" ∷ codes "tags" ∷ codes "purchase" ∷ []

-- the names that stand in each purchase
abbrev pub purchase_names : List (List ℕ)
purchase_names = codes "at" ∷ codes "billed" ∷ []

-- the names that stand in a purchase that is added to a commitment
abbrev pub added_names : List (List ℕ)
added_names = codes "id" ∷ codes "at" ∷ codes "billed" ∷ []
