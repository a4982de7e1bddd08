-- The fields of a row, the rules over several of them, and the row that they make.
use Rattle.std.specs.Prelude.{ℕ, Bool, true, false, ◌&&◌, List, Option, Some, None, nat_le, ℤ}
use Rattle.fw_charge.specs.Charge.{Charge, DiscountText}
use Rattle.fw_charge.specs.Tags.{TagText}
use Rattle.fw_charge.specs.declared.category.Category.{Category}
use Rattle.fw_charge.specs.declared.category.Category.TheVariants as category
use Rattle.fw_charge.specs.declared.discount.DiscountKind.{DiscountKind}
use Rattle.fw_charge.specs.declared.discount.DiscountStatus.{DiscountStatus}
use Rattle.fw_charge.specs.Spelling.{keys_rise}

-- ---- the fields of a row, in turn, in four groups and the tags

abbrev pub Amounts : Type 0
Amounts = ℤ × (ℤ × (Category × Bool))

-- a discount's id, kind and status, each of which may be null
abbrev pub DiscountParts : Type 0
DiscountParts = Option (List ℕ) × (Option DiscountKind × Option DiscountStatus)

abbrev pub Consumed : Type 0
Consumed = Option ℤ × (Option (List ℕ) × (Option (List ℕ) × Option (List ℕ)))

abbrev pub Fields : Type 0
Fields = Amounts × ((ℕ × ℕ) × (DiscountParts × (Consumed × List TagText)))

-- ---- the rules over several of them

-- a null id has neither kind nor status; an id has a kind, and in a usage row a status
abbrev pub discount_agrees : Category → DiscountParts → Bool
discount_agrees c (None, (None, None)) = true
discount_agrees c (None, (None, Some s)) = false
discount_agrees c (None, (Some k, s)) = false
discount_agrees c (Some id, (None, s)) = false
discount_agrees c (Some id, (Some k, Some s)) = true
discount_agrees category.Usage (Some id, (Some k, None)) = false
discount_agrees category.Purchase (Some id, (Some k, None)) = true
discount_agrees category.Tax (Some id, (Some k, None)) = true
discount_agrees category.Credit (Some id, (Some k, None)) = true
discount_agrees category.Adjustment (Some id, (Some k, None)) = true

-- the period doesn't end before it starts, the discount's parts agree, and the keys of the tags rise
abbrev pub fields_agree : Fields → Bool
fields_agree f = nat_le f.1.0.0 f.1.0.1 && (discount_agrees f.0.1.1.0 f.1.1.0 && keys_rise f.1.1.1.1)

-- the discount of parts that agree
abbrev pub discount_from : DiscountParts → Option DiscountText
discount_from (None, rest) = None
discount_from (Some id, (None, s)) = None
discount_from (Some id, (Some k, s)) = Some (record { id = id; kind = k; status = s })

-- the row of fields that agree
abbrev pub row_from : Fields → Charge
row_from f = record {
  billed = f.0.0;
  effective = f.0.1.0;
  category = f.0.1.1.0;
  is_correction = f.0.1.1.1;
  start = f.1.0.0;
  end = f.1.0.1;
  discount = discount_from f.1.1.0;
  quantity = f.1.1.1.0.0;
  unit = f.1.1.1.0.1.0;
  sku = f.1.1.1.0.1.1.0;
  sub_account = f.1.1.1.0.1.1.1;
  tags = f.1.1.1.1;
}
