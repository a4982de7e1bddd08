-- The fields that a reader of rows holds, as plain values.
use Rattle.std.specs.Prelude.{string_bytes, option_map}
use Rattle.fw_row_bytes.specs.declared.row.AmountFields.{AmountFields}
use Rattle.fw_row_bytes.specs.declared.row.DiscountFields.{DiscountFields}
use Rattle.fw_row_bytes.specs.declared.row.ConsumedFields.{ConsumedFields}
use Rattle.fw_row_bytes.specs.declared.row.ReadFields.{ReadFields}
use Rattle.fw_fields.specs.Row.{Amounts, DiscountParts, Consumed, Fields}

abbrev pub amounts_view : AmountFields → Amounts
amounts_view f = (f.billed, (f.effective, (f.category, f.is_correction)))

abbrev pub discount_view : DiscountFields → DiscountParts
discount_view f = (option_map string_bytes f.id, (f.kind, f.status))

abbrev pub consumed_view : ConsumedFields → Consumed
consumed_view f = (f.quantity, (option_map string_bytes f.unit, (option_map string_bytes f.sku, option_map string_bytes f.sub_account)))

abbrev pub fields_view : ReadFields → Fields
fields_view f = (amounts_view f.amounts, ((f.period.0, f.period.1), (discount_view f.discount, (consumed_view f.consumed, f.tags.items))))
