-- The columns that are read, and where a header has them.
use Rattle.std.specs.Prelude.{ℕ, Bool, List, [], ◌∷◌, ◌++◌, Option, is_none, codes, count_by, find, position, option_and_then, unwrap_or, nat_lt}
use Rattle.std.specs.Str.{bytes_eq}
use Rattle.csv.specs.Records.{field_at}
use Rattle.fw_rows.specs.declared.column.Column.{Column}
use Rattle.fw_rows.specs.declared.column.Column.TheVariants as column

-- a record of a CSV text: its fields in order, each as its bytes
abbrev pub Record : Type 0
Record = List (List ℕ)

-- the name of a column
unfoldable pub name_of : Column → List ℕ
name_of column.BilledCost = codes "BilledCost"
name_of column.EffectiveCost = codes "EffectiveCost"
name_of column.BillingCurrency = codes "BillingCurrency"
name_of column.ChargeCategory = codes "ChargeCategory"
name_of column.ChargePeriodStart = codes "ChargePeriodStart"
name_of column.ChargePeriodEnd = codes "ChargePeriodEnd"
name_of column.ChargeClass = codes "ChargeClass"
name_of column.CommitmentDiscountId = codes "CommitmentDiscountId"
name_of column.CommitmentDiscountCategory = codes "CommitmentDiscountCategory"
name_of column.CommitmentDiscountStatus = codes "CommitmentDiscountStatus"
name_of column.ConsumedQuantity = codes "ConsumedQuantity"
name_of column.ConsumedUnit = codes "ConsumedUnit"
name_of column.SkuId = codes "SkuId"
name_of column.SubAccountId = codes "SubAccountId"
name_of column.Tags = codes "Tags"

-- the columns that a header must have, in the order in which the first that is missing is named
abbrev pub required : List Column
required = column.BilledCost ∷ column.EffectiveCost ∷ column.BillingCurrency ∷ column.ChargeCategory ∷ column.ChargePeriodStart ∷ column.ChargePeriodEnd ∷ []

-- the columns that a header may have
abbrev pub optional : List Column
optional =
    column.ChargeClass ∷ column.CommitmentDiscountId ∷ column.CommitmentDiscountCategory ∷ column.CommitmentDiscountStatus ∷ column.ConsumedQuantity
    ∷ column.ConsumedUnit ∷ column.SkuId ∷ column.SubAccountId ∷ column.Tags ∷ []

-- the columns that are read, in the order in which the first that stands twice is named
abbrev pub columns : List Column
columns = required ++ optional

-- where a column stands among those that are read
unfoldable pub index_of : Column → ℕ
index_of column.BilledCost = 0
index_of column.EffectiveCost = 1
index_of column.BillingCurrency = 2
index_of column.ChargeCategory = 3
index_of column.ChargePeriodStart = 4
index_of column.ChargePeriodEnd = 5
index_of column.ChargeClass = 6
index_of column.CommitmentDiscountId = 7
index_of column.CommitmentDiscountCategory = 8
index_of column.CommitmentDiscountStatus = 9
index_of column.ConsumedQuantity = 10
index_of column.ConsumedUnit = 11
index_of column.SkuId = 12
index_of column.SubAccountId = 13
index_of column.Tags = 14

-- whether a header's field is the name of a column
abbrev pub is_name : Column → List ℕ → Bool
is_name c field = bytes_eq (name_of c) field

-- the first place at which a column stands in a header
unfoldable pub place_in : Record → Column → Option ℕ
place_in header c = position (is_name c) header

-- how often a column stands in a header
unfoldable pub times : Record → Column → ℕ
times header c = count_by (is_name c) header

-- the first required column that doesn't stand in the header
unfoldable pub missing_column : Record → Option Column
missing_column header = find (λ c. is_none (place_in header c)) required

-- the first column that stands in the header twice or more
unfoldable pub double_column : Record → Option Column
double_column header = find (λ c. nat_lt 1 (times header c)) columns

-- the text of the field at a place; the empty text where there is no place, or the record has no such field
abbrev pub text_at : Record → Option ℕ → List ℕ
text_at fields place = unwrap_or (option_and_then (λ p. field_at fields p) place) []

-- the text of a record in a column. It is null where the header doesn't have the column, and where the field is empty: null is the empty text
unfoldable pub text_in : Record → Record → Column → List ℕ
text_in header fields c = text_at fields (place_in header c)
