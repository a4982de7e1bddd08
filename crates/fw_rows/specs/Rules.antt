-- The rules of a record, in order, and the row that a record stands for.
use Rattle.std.specs.Prelude.{◌≡◌, ◌≢◌, ◌⊎◌, ◌<◌, ◌≤◌, ℕ, ℤ, Bool, List, [], ◌∷◌, ◌++◌, length, Any, Option, Some, None, Result, Ok, Err, IfSome, MatchOption, IsUtf8}
use Rattle.fw_charge.specs.Charge.{Charge, DiscountText, longest_short_text}
use Rattle.fw_charge.specs.Codes.{category_word, class_word, kind_word, status_word}
use Rattle.fw_charge.specs.Tags.{TagText}
use Rattle.fw_charge.specs.declared.category.Category.{Category}
use Rattle.fw_charge.specs.declared.category.Category.TheVariants as category
use Rattle.fw_charge.specs.declared.discount.DiscountKind.{DiscountKind}
use Rattle.fw_charge.specs.declared.discount.DiscountStatus.{DiscountStatus}
use Rattle.fw_instants.specs.Instants.{IsSecond}
use Rattle.fw_money.specs.Reading.{Reads}
use Rattle.fw_money.specs.declared.nanos.MoneyFault.TheVariants as money
use Rattle.fw_rules.specs.Table.{FirstBroken, NoneBroken}
use Rattle.fw_tags.specs.Reading.{AreSized, tags_in}
use Rattle.fw_rows.specs.Columns.{Record, columns, text_in}
use Rattle.fw_rows.specs.declared.column.Column.{Column}
use Rattle.fw_rows.specs.declared.column.Column.TheVariants as column
use Rattle.fw_rows.specs.declared.fault.RecordFault.{RecordFault}
use Rattle.fw_rows.specs.declared.fault.RecordFault.TheVariants as fault

-- a rule: the fault where it is broken, and when it is broken
abbrev pub Rule : Type 1
Rule = RecordFault × Type 0

-- the texts of a record in the columns; null is the empty text
abbrev pub Texts : Type 0
Texts = Column → List ℕ

-- a field in one of the columns that are read is not UTF-8
abbrev pub HasNonText : Record → Record → Type 0
HasNonText header fields = Any (λ c. ¬ IsUtf8 (text_in header fields c)) columns

-- ---- what the texts read as

-- a text reads as an amount
abbrev pub IsAmount : List ℕ → Type 0
IsAmount text = (nanos : ℤ) × Reads text (Ok nanos)

-- a text reads as the instant of a second since 1970
abbrev pub IsInstant : List ℕ → Type 0
IsInstant text = (second : ℕ) × IsSecond text second

-- the kind of a commitment discount: it is null exactly where the id is
unfoldable pub KindReads : (id kind : List ℕ) → Option DiscountKind → Type 0
KindReads id kind None = (id ≡ []) × (kind ≡ [])
KindReads id kind (Some k) = (id ≢ []) × (kind ≡ kind_word k)

-- the status of a commitment discount: it is null where the id is, and isn't null where a usage row has an id
unfoldable pub StatusReads : (word id status : List ℕ) → Option DiscountStatus → Type 0
StatusReads word id status None = (status ≡ []) × (id ≢ [] → word ≢ category_word category.Usage)
StatusReads word id status (Some s) = (id ≢ []) × (status ≡ status_word s)

-- a quantity: null, an amount, or a number past the greatest amount, which counts as null
unfoldable pub QuantityReads : List ℕ → Option ℤ → Type 0
QuantityReads text None = (text ≡ []) ⊎ Reads text (Err money.Range)
QuantityReads text (Some nanos) = (text ≢ []) × Reads text (Ok nanos)

-- the tags that a text states; null states none
unfoldable pub tags_stated : List ℕ → Option (List TagText)
tags_stated [] = Some []
tags_stated (b ∷ text) = tags_in (b ∷ text)

-- an id, a unit, a SKU, a sub-account have at most 256 bytes
abbrev pub IsShort : List ℕ → Type 0
IsShort text = length text ≤ longest_short_text

-- texts and tags are within their limits
pub record AreShort (at : Texts) : Type 0 where
  pub id : IsShort (at column.CommitmentDiscountId)
  pub unit : IsShort (at column.ConsumedUnit)
  pub sku : IsShort (at column.SkuId)
  pub sub_account : IsShort (at column.SubAccountId)
  pub tags : IfSome (tags_stated (at column.Tags)) AreSized

-- a text that may be null
unfoldable pub not_null : List ℕ → Option (List ℕ)
not_null [] = None
not_null (b ∷ text) = Some (b ∷ text)

-- ---- the rules, in the order in which they are checked

-- of the form of a record
unfoldable pub form_rules : Record → Record → List Rule
form_rules header fields =
    (fault.Fields, length fields ≢ length header)
    ∷ (fault.NotUtf8, HasNonText header fields)
    ∷ []

-- of the words for what kind of charge it is
unfoldable pub word_rules : Texts → List Rule
word_rules at =
    (fault.Category, ¬ ((k : Category) × (at column.ChargeCategory ≡ category_word k)))
    ∷ (fault.Class, ¬ ((is_correction : Bool) × (at column.ChargeClass ≡ class_word is_correction)))
    ∷ []

-- of the costs
unfoldable pub cost_rules : List ℕ → Texts → List Rule
cost_rules currency at =
    (fault.Cost, ¬ (IsAmount (at column.BilledCost) × IsAmount (at column.EffectiveCost)))
    ∷ (fault.Currency, at column.BillingCurrency ≢ currency)
    ∷ []

-- of the charge period
unfoldable pub period_rules : Texts → List Rule
period_rules at =
    (fault.Time, ¬ (IsInstant (at column.ChargePeriodStart) × IsInstant (at column.ChargePeriodEnd)))
    ∷ (fault.PeriodOrder, (start end : ℕ) × IsSecond (at column.ChargePeriodStart) start × IsSecond (at column.ChargePeriodEnd) end × (end < start))
    ∷ []

-- of the commitment discount
unfoldable pub kind_rules : Texts → List Rule
kind_rules at = (fault.Commitment, ¬ ((k : Option DiscountKind) × KindReads (at column.CommitmentDiscountId) (at column.CommitmentDiscountCategory) k)) ∷ []

unfoldable pub status_rules : Texts → List Rule
status_rules at =
    (fault.Status, ¬ ((s : Option DiscountStatus) × StatusReads (at column.ChargeCategory) (at column.CommitmentDiscountId) (at column.CommitmentDiscountStatus) s))
    ∷ []

-- of the quantity
unfoldable pub quantity_rules : Texts → List Rule
quantity_rules at = (fault.Quantity, ¬ ((q : Option ℤ) × QuantityReads (at column.ConsumedQuantity) q)) ∷ []

-- of the tags and of the lengths
unfoldable pub length_rules : Texts → List Rule
length_rules at =
    (fault.BadTags, tags_stated (at column.Tags) ≡ None)
    ∷ (fault.TooLong, ¬ AreShort at)
    ∷ []

-- of the texts in the columns
unfoldable pub text_rules : List ℕ → Texts → List Rule
text_rules currency at =
    word_rules at ++ (cost_rules currency at ++ (period_rules at ++ (kind_rules at ++ (status_rules at ++ (quantity_rules at ++ length_rules at)))))

-- of a record under a header and a currency
unfoldable pub rules_of : List ℕ → Record → Record → List Rule
rules_of currency header fields = form_rules header fields ++ text_rules currency (text_in header fields)

-- ---- the row

-- the discount is what the texts of id, kind and status say
pub record DiscountStands (at : Texts) (discount : DiscountText) : Type 0 where
  pub id : at column.CommitmentDiscountId ≡ discount.id
  pub kind : KindReads (at column.CommitmentDiscountId) (at column.CommitmentDiscountCategory) (Some discount.kind)
  pub status : StatusReads (at column.ChargeCategory) (at column.CommitmentDiscountId) (at column.CommitmentDiscountStatus) discount.status

-- the row has what the texts of a record say
pub record Stands (at : Texts) (row : Charge) : Type 0 where
  pub billed : Reads (at column.BilledCost) (Ok row.billed)
  pub effective : Reads (at column.EffectiveCost) (Ok row.effective)
  pub category : at column.ChargeCategory ≡ category_word row.category
  pub class : at column.ChargeClass ≡ class_word row.is_correction
  pub start : IsSecond (at column.ChargePeriodStart) row.start
  pub end : IsSecond (at column.ChargePeriodEnd) row.end
  pub discount : MatchOption row.discount (at column.CommitmentDiscountId ≡ []) (DiscountStands at)
  pub quantity : QuantityReads (at column.ConsumedQuantity) row.quantity
  pub unit : row.unit ≡ not_null (at column.ConsumedUnit)
  pub sku : row.sku ≡ not_null (at column.SkuId)
  pub sub_account : row.sub_account ≡ not_null (at column.SubAccountId)
  pub tags : tags_stated (at column.Tags) ≡ Some row.tags

abbrev pub BreaksNoRule : List ℕ → Record → Record → Type 0
BreaksNoRule currency header fields = NoneBroken (rules_of currency header fields)

-- what a record reads as under a header and a currency: the row that it stands for, or the fault of the first rule that it breaks
unfoldable pub RecordReads : List ℕ → Record → Record → Result Charge RecordFault → Type 0
RecordReads currency header fields (Ok row) = BreaksNoRule currency header fields × Stands (text_in header fields) row
RecordReads currency header fields (Err f) = FirstBroken (rules_of currency header fields) f
