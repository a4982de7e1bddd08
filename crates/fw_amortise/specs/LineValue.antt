-- A line of an hour as plain values.
use Rattle.std.specs.Prelude.{ℕ, ℤ, List, Option}
use Rattle.fw_charge.specs.Tags.{TagText}
use Rattle.fw_charge.specs.Charge.{DiscountText}
use Rattle.fw_charge.specs.declared.category.Category.{Category}
use Rattle.fw_amortise.specs.declared.line.LineKind.{LineKind}

-- costs and quantity in nanos; what may be null is an option
pub record LineValue : Type 0 where
  pub hour : ℕ
  pub kind : LineKind
  pub category : Category
  pub commitment : Option DiscountText
  pub billed : ℤ
  pub effective : ℤ
  pub quantity : Option ℤ
  pub sku : Option (List ℕ)
  pub sub_account : Option (List ℕ)
  pub tags : List TagText
