-- In what rows agree.
use Rattle.std.specs.Prelude.{◌≡◌}
use Rattle.fw_charge.specs.Charge.{Charge}

-- costs, times, category, class and quantity
pub record AgreeInNumbers (one other : Charge) : Type 0 where
  pub start : one.start ≡ other.start
  pub billed : one.billed ≡ other.billed
  pub end : one.end ≡ other.end
  pub effective : one.effective ≡ other.effective
  pub category : one.category ≡ other.category
  pub is_correction : one.is_correction ≡ other.is_correction
  pub quantity : one.quantity ≡ other.quantity

-- unit, SKU and sub-account
pub record AgreeInTexts (one other : Charge) : Type 0 where
  pub unit : one.unit ≡ other.unit
  pub sku : one.sku ≡ other.sku
  pub sub_account : one.sub_account ≡ other.sub_account

-- all but the tags
pub record AgreeBesideTags (one other : Charge) : Type 0 where
  pub numbers : AgreeInNumbers one other
  pub texts : AgreeInTexts one other
  pub discount : one.discount ≡ other.discount
