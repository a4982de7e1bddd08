-- The charge that the fields of an exported row are.
use Rattle.std.specs.Prelude.{option_copied, option_map}
use Rattle.fw_charge.specs.Charge.{Charge}
use Rattle.fw_row_table.specs.Lending.{tags_lent}
use Rattle.fw_amortise.specs.LineView.{discount_of}
use Rattle.fw_allocated.specs.declared.row.ExportedFields.{ExportedFields}

abbrev pub charge_of : ExportedFields → Charge
charge_of row = record {
  billed = row.billed;
  effective = row.effective;
  category = row.category;
  is_correction = row.is_correction;
  start = row.start;
  end = row.end;
  discount = option_map discount_of row.discount;
  quantity = row.quantity;
  unit = option_copied row.unit;
  sku = option_copied row.sku;
  sub_account = option_copied row.sub_account;
  tags = tags_lent row.tags;
}
