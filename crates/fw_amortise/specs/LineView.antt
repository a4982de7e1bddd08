-- The line that some fields stand for.
use Rattle.std.specs.Prelude.{option_map, option_copied}
use Rattle.fw_charge.specs.Charge.{DiscountText}
use Rattle.fw_row_table.specs.Lending.{tags_lent}
use Rattle.fw_amortise.specs.LineValue.{LineValue}
use Rattle.fw_amortise.specs.declared.line.LineDiscount.{LineDiscount}
use Rattle.fw_amortise.specs.declared.line.LineFields.{LineFields}

abbrev pub discount_of : LineDiscount → DiscountText
discount_of d = record { id = d.id.now; kind = d.kind; status = d.status }

abbrev pub line_of : LineFields → LineValue
line_of fields = record {
  hour = fields.hour;
  kind = fields.kind;
  category = fields.category;
  commitment = option_map discount_of fields.commitment;
  billed = fields.billed;
  effective = fields.effective;
  quantity = fields.quantity;
  sku = option_copied fields.sku;
  sub_account = option_copied fields.sub_account;
  tags = tags_lent fields.tags;
}
