-- The parts of a record as the reader takes them out. Its private functions cite it.
use Rattle.std.specs.Prelude.{◌≡◌, ◌≤◌, ◌++◌, List, [], ℕ, map, slice_index_or, Option, Some, None, Result, Ok, Err, MatchOption}
use Rattle.std.specs.Map.{lookup}
use Rattle.std.specs.Str.{bytes_eq}
use Rattle.fw_charge.specs.Charge.{DiscountText, last_second}
use Rattle.fw_charge.specs.Codes.{category_word, class_word}
use Rattle.fw_charge.specs.Tags.{TagText, IsTags}
use Rattle.fw_instants.specs.Instants.{IsSecond}
use Rattle.fw_money.specs.Reading.{Reads}
use Rattle.fw_tags.specs.Reading.{AreSized}
use Rattle.fw_tags.specs.declared.fault.TagFault.{TagFault}
use Rattle.fw_tags.specs.declared.fault.TagFault.TheVariants as tag_fault
use Rattle.fw_rows.specs.Columns.{Record, text_in, index_of}
use Rattle.fw_rows.specs.Rules.{HasNonText, Texts, Rule, IsShort, AreShort, word_rules, cost_rules, period_rules, kind_rules, status_rules, quantity_rules, length_rules, KindReads, StatusReads, QuantityReads, tags_stated}
use Rattle.fw_rows.specs.declared.column.Column.{Column}
use Rattle.fw_rows.specs.declared.column.Column.TheVariants as column
use Rattle.fw_rows.specs.declared.cells.Cells.{Cells}
use Rattle.fw_rows.specs.declared.charged.Words.{Words}
use Rattle.fw_rows.specs.declared.charged.Costs.{Costs}
use Rattle.fw_rows.specs.declared.charged.Period.{Period}
use Rattle.fw_rows.specs.declared.details.Details.{Details}
use Rattle.fw_rows.specs.declared.charged.Charged.{Charged}
use Rattle.fw_rows.specs.declared.details.NamedDiscount.{NamedDiscount}

-- the texts that the reader has taken out
abbrev pub texts_of : Cells → Texts
texts_of cells c = slice_index_or (map (λ t. t.now) cells.texts) (index_of c) []

-- the texts of a record, all UTF-8
pub record AreCells (header fields : Record) (cells : Cells) : Type 0 where
  pub all_text : ¬ HasNonText header fields
  pub texts : (c : Column) → texts_of cells c ≡ text_in header fields c

pub record WordsStand (at : Texts) (words : Words) : Type 0 where
  pub category : at column.ChargeCategory ≡ category_word words.category
  pub class : at column.ChargeClass ≡ class_word words.is_correction

pub record CostsStand (at : Texts) (costs : Costs) : Type 0 where
  pub billed : Reads (at column.BilledCost) (Ok costs.billed)
  pub effective : Reads (at column.EffectiveCost) (Ok costs.effective)

pub record PeriodStands (at : Texts) (period : Period) : Type 0 where
  pub start : IsSecond (at column.ChargePeriodStart) period.start
  pub end : IsSecond (at column.ChargePeriodEnd) period.end
  pub ordered : period.start ≤ period.end
  pub dated : period.end ≤ last_second

-- words, costs and period
unfoldable pub charged_rules : List ℕ → Texts → List Rule
charged_rules currency at = word_rules at ++ (cost_rules currency at ++ period_rules at)

pub record ChargedStands (at : Texts) (c : Charged) : Type 0 where
  pub words : WordsStand at c.words
  pub costs : CostsStand at c.costs
  pub period : PeriodStands at c.period

-- the commitment discount
unfoldable pub discount_rules : Texts → List Rule
discount_rules at = kind_rules at ++ status_rules at

-- the id, and what kind and status are where it isn't null
pub record NamedStands (at : Texts) (named : NamedDiscount) : Type 0 where
  pub id : named.id.now ≡ at column.CommitmentDiscountId
  pub kind : KindReads (at column.CommitmentDiscountId) (at column.CommitmentDiscountCategory) (Some named.kind)
  pub status : StatusReads (at column.ChargeCategory) (at column.CommitmentDiscountId) (at column.CommitmentDiscountStatus) named.status

-- the discount that is named
abbrev pub discount_text : Option NamedDiscount → Option DiscountText
discount_text None = None
discount_text (Some named) = Some (record { id = named.id.now; kind = named.kind; status = named.status })

abbrev pub NamedOrNull : Texts → Option NamedDiscount → Type 0
NamedOrNull at named = MatchOption named (at column.CommitmentDiscountId ≡ []) (NamedStands at)

-- tags are noted of no longer text
abbrev pub longest_known : ℕ
longest_known = 1024

-- the tags that are known of a text
abbrev pub tags_known : List (List ℕ × List TagText) → List ℕ → Option (List TagText)
tags_known known text = lookup (bytes_eq text) known

-- what reading the tags answers; it may run out of memory on any text
abbrev pub TagsAnswer : List ℕ → Result (List TagText) TagFault → Type 0
TagsAnswer text (Ok tags) = (tags_stated text ≡ Some tags) × AreSized tags
TagsAnswer text (Err tag_fault.NotTags) = tags_stated text ≡ None
TagsAnswer text (Err tag_fault.TooLong) = (tags : List TagText) × (tags_stated text ≡ Some tags) × ¬ AreSized tags
TagsAnswer text (Err tag_fault.NoMemory) = Unit {0}

-- the texts of at most 256 bytes
pub record TextsAreShort (at : Texts) : Type 0 where
  pub id : IsShort (at column.CommitmentDiscountId)
  pub unit : IsShort (at column.ConsumedUnit)
  pub sku : IsShort (at column.SkuId)
  pub sub_account : IsShort (at column.SubAccountId)

-- discount, quantity and tags
unfoldable pub detail_rules : Texts → List Rule
detail_rules at = discount_rules at ++ (quantity_rules at ++ length_rules at)

pub record DetailsStand (at : Texts) (d : Details) : Type 0 where
  pub discount : NamedOrNull at d.discount
  pub quantity : QuantityReads (at column.ConsumedQuantity) d.quantity
  pub tags : tags_stated (at column.Tags) ≡ Some d.tags
  pub short : AreShort at
  pub kept : IsTags d.tags
