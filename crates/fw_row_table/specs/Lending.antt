-- Lent rows: what their fields stand for.
use Rattle.std.specs.Prelude.{List, [], ◌∷◌, Option, Some, None, option_copied, option_map, IsUtf8}
use Rattle.std.specs.Borrow.{Bor}
use Rattle.fw_charge.specs.Charge.{Charge, DiscountText}
use Rattle.fw_charge.specs.Tags.{TagText}
use Rattle.fw_charge.specs.declared.discount.DiscountKind.{DiscountKind}
use Rattle.fw_charge.specs.declared.discount.DiscountStatus.{DiscountStatus}
use Rattle.fw_row_table.specs.Table.{tags_of}
use Rattle.fw_row_table.specs.declared.lending.LentDiscount.{LentDiscount}
use Rattle.fw_row_table.specs.declared.lending.LentTag.{LentTag}
use Rattle.fw_row_table.specs.declared.lending.LentTags.{LentTags}
use Rattle.fw_row_table.specs.declared.lending.LentTags.TheVariants as tags
use Rattle.fw_row_table.specs.declared.lending.RowView.{RowView}
use Rattle.fw_row_table.specs.Names.{Text}

abbrev pub discount_lent : LentDiscount → DiscountText
discount_lent d = record { id = d.id.now; kind = d.kind; status = d.status }

-- the discount with an id that may be null, and with this kind and this status
abbrev pub discount_with : Option (Bor Text) → DiscountKind → Option DiscountStatus → Option DiscountText
discount_with id kind status = option_map (λ i. record { id = i.now; kind = kind; status = status }) id

abbrev pub tag_lent : LentTag → TagText
tag_lent t = record { key = t.key.now; value = t.value.now }

-- tags that are kept as they are, or as the places of their texts in names
abbrev pub tags_lent : LentTags → List TagText
tags_lent (tags.Whole kept) = kept.now
tags_lent (tags.Listed names list) = tags_of names.now list.now

-- a tag and the tags behind it, or no tags
unfoldable pub tags_split : Option (LentTag × LentTags) → List TagText
tags_split None = []
tags_split (Some first) = tag_lent first.0 ∷ tags_lent first.1

-- the row with these values and these tags
abbrev pub charge_with : RowView → List TagText → Charge
charge_with row tags = record {
  billed = row.billed;
  effective = row.effective;
  category = row.category;
  is_correction = row.is_correction;
  start = row.start;
  end = row.end;
  discount = discount_with row.discount row.kind row.status;
  quantity = row.quantity;
  unit = option_copied row.unit;
  sku = option_copied row.sku;
  sub_account = option_copied row.sub_account;
  tags = tags;
}

-- a tag whose key and text are UTF-8
pub record IsTextTag (t : TagText) : Type 0 where
  pub key : IsUtf8 t.key
  pub value : IsUtf8 t.value
