-- What reading the rows of a text leaves in what they go into.
use Rattle.std.specs.Prelude.{◌≡◌, ◌<◌, ℕ, List, [], ◌∷◌, ◌++◌, length, option_map, slice_get, unwrap_or, Some, Result, Ok, Err, ⊤}
use Rattle.fw_charge.specs.Charge.{Charge}
use Rattle.fw_charge.specs.Tags.{TagText, IsTags}
use Rattle.fw_tags.specs.declared.fault.TagFault.TheVariants as tag_fault
use Rattle.fw_rows.specs.Parts.{TagsAnswer}
use Rattle.fw_rows.specs.Rules.{Stands, Texts, tags_stated}
use Rattle.fw_rows.specs.declared.column.Column.TheVariants as column
use Rattle.fw_rows.specs.declared.fault.RowFault.{RowFault}
use Rattle.fw_rows.specs.declared.sink.GivenTags.{GivenTags}
use Rattle.fw_rows.specs.declared.sink.GivenTags.TheVariants as given

-- there is one row more: that for which the texts of a record stand
abbrev pub AddsRow : Texts → List Charge → List Charge → Type 0
AddsRow at old new = (row : Charge) × Stands at row × (new ≡ old ++ row ∷ [])

-- the rows that there are, or the fault
abbrev pub rows_in : List Charge → Result (Unit {0}) RowFault → Result (List Charge) RowFault
rows_in rows (Ok read) = Ok rows
rows_in rows (Err fault) = Err fault

-- the texts of a record with another text of tags
abbrev pub with_text : Texts → List ℕ → Texts
with_text at text column.BilledCost = at column.BilledCost
with_text at text column.EffectiveCost = at column.EffectiveCost
with_text at text column.BillingCurrency = at column.BillingCurrency
with_text at text column.ChargeCategory = at column.ChargeCategory
with_text at text column.ChargePeriodStart = at column.ChargePeriodStart
with_text at text column.ChargePeriodEnd = at column.ChargePeriodEnd
with_text at text column.ChargeClass = at column.ChargeClass
with_text at text column.CommitmentDiscountId = at column.CommitmentDiscountId
with_text at text column.CommitmentDiscountCategory = at column.CommitmentDiscountCategory
with_text at text column.CommitmentDiscountStatus = at column.CommitmentDiscountStatus
with_text at text column.ConsumedQuantity = at column.ConsumedQuantity
with_text at text column.ConsumedUnit = at column.ConsumedUnit
with_text at text column.SkuId = at column.SkuId
with_text at text column.SubAccountId = at column.SubAccountId
with_text at text column.Tags = text

-- the tags of the row at a place, none where there is no row
abbrev pub row_tags : List Charge → ℕ → List TagText
row_tags rows place = unwrap_or (option_map (λ c. c.tags) (slice_get rows place)) []

-- a row can be given these tags: those of a row that is there, these, or none where they are too many or too long
abbrev pub CanGive : List Charge → GivenTags → Type 0
CanGive rows (given.Like place) = (place < length rows) × IsTags (row_tags rows place)
CanGive rows (given.These tags) = ⊤
CanGive rows given.TooLong = ⊤

-- a text states the tags that a row is given
abbrev pub StatesGiven : List Charge → GivenTags → List ℕ → Type 0
StatesGiven rows (given.Like place) text = tags_stated text ≡ Some (row_tags rows place)
StatesGiven rows (given.These tags) text = TagsAnswer text (Ok tags.now)
StatesGiven rows given.TooLong text = TagsAnswer text (Err tag_fault.TooLong)
