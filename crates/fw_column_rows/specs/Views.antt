-- What a record says of its row, but its tags. The private functions of the crate cite it.
use Rattle.std.specs.Prelude.{◌≡◌, ◌≤◌, ◌++◌, ℕ, List, [], Ok, MatchOption, option_copied}
use Rattle.fw_charge.specs.Charge.{last_second}
use Rattle.fw_charge.specs.Codes.{category_word, class_word}
use Rattle.fw_row_table.specs.Lending.{discount_with}
use Rattle.fw_row_table.specs.declared.lending.RowView.{RowView}
use Rattle.fw_instants.specs.Instants.{IsSecond}
use Rattle.fw_money.specs.Reading.{Reads}
use Rattle.fw_rows.specs.Parts.{charged_rules, discount_rules}
use Rattle.fw_rows.specs.Rules.{Rule, Texts, DiscountStands, QuantityReads, not_null, quantity_rules}
use Rattle.fw_rows.specs.declared.column.Column.TheVariants as column

-- the rules of a record but those of its form, of its tags and of lengths
unfoldable pub view_rules : List ℕ → Texts → List Rule
view_rules currency at = charged_rules currency at ++ (discount_rules at ++ quantity_rules at)

-- the values are what the texts of a record say
pub record ViewStands (at : Texts) (row : RowView) : Type 0 where
  pub billed : Reads (at column.BilledCost) (Ok row.billed)
  pub effective : Reads (at column.EffectiveCost) (Ok row.effective)
  pub category : at column.ChargeCategory ≡ category_word row.category
  pub class : at column.ChargeClass ≡ class_word row.is_correction
  pub start : IsSecond (at column.ChargePeriodStart) row.start
  pub end : IsSecond (at column.ChargePeriodEnd) row.end
  pub ordered : row.start ≤ row.end
  pub dated : row.end ≤ last_second
  pub discount : MatchOption (discount_with row.discount row.kind row.status) (at column.CommitmentDiscountId ≡ []) (DiscountStands at)
  pub quantity : QuantityReads (at column.ConsumedQuantity) row.quantity
  pub unit : option_copied row.unit ≡ not_null (at column.ConsumedUnit)
  pub sku : option_copied row.sku ≡ not_null (at column.SkuId)
  pub sub_account : option_copied row.sub_account ≡ not_null (at column.SubAccountId)
