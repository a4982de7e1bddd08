-- When two charges are one.
use Rattle.std.proofs.Common.{◌≡◌}
use Rattle.fw_charge.specs.Charge.{Charge}

-- charges whose twelve fields are equal are equal
pub equal_fields : (x y : Charge) → x.billed ≡ y.billed → x.effective ≡ y.effective → x.category ≡ y.category → x.is_correction ≡ y.is_correction → x.start ≡ y.start → x.end ≡ y.end
    → x.discount ≡ y.discount → x.quantity ≡ y.quantity → x.unit ≡ y.unit → x.sku ≡ y.sku → x.sub_account ≡ y.sub_account → x.tags ≡ y.tags → x ≡ y
equal_fields x y billed effective category is_correction start end discount quantity unit sku sub_account tags = λ i. record {
  billed = billed i;
  effective = effective i;
  category = category i;
  is_correction = is_correction i;
  start = start i;
  end = end i;
  discount = discount i;
  quantity = quantity i;
  unit = unit i;
  sku = sku i;
  sub_account = sub_account i;
  tags = tags i;
}
