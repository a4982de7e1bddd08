-- The charge that a row's fields stand for.
use Rattle.std.specs.Prelude.{option_map, string_bytes}
use Rattle.fw_charge.specs.Charge.{Charge}
use Rattle.fw_charge.specs.declared.row.RowFields.{RowFields}

abbrev pub charge_of : RowFields → Charge
charge_of fields = record {
  billed = fields.billed;
  effective = fields.effective;
  category = fields.category;
  is_correction = fields.is_correction;
  start = fields.start;
  end = fields.end;
  discount = fields.discount;
  quantity = fields.quantity;
  unit = option_map string_bytes fields.unit;
  sku = option_map string_bytes fields.sku;
  sub_account = option_map string_bytes fields.sub_account;
  tags = fields.tags;
}
