-- How a row reads.
use Rattle.std.specs.Prelude.{ℕ}
use Rattle.fw_bytes.specs.Reading.{Reading, code_at, optional_at, checked, both, seen}
use Rattle.fw_charge.specs.Charge.{Charge}
use Rattle.fw_charge.specs.Codes.{category_of, class_of, kind_of, status_of}
use Rattle.fw_fields.specs.Reading.{null_or, nanos_at, second_at, short_text_at, tags_at}
use Rattle.fw_fields.specs.Row.{Amounts, DiscountParts, Consumed, Fields, fields_agree, row_from}

-- ---- the fields of a row, in turn, in four groups and the tags

unfoldable pub amounts_at : Reading Amounts
amounts_at = both nanos_at (both nanos_at (both (code_at category_of) (code_at class_of)))

unfoldable pub period_at : Reading (ℕ × ℕ)
period_at = both second_at second_at

unfoldable pub discount_at : Reading DiscountParts
discount_at = both (optional_at short_text_at) (both (code_at (null_or kind_of)) (code_at (null_or status_of)))

unfoldable pub consumed_at : Reading Consumed
consumed_at = both (optional_at nanos_at) (both (optional_at short_text_at) (both (optional_at short_text_at) (optional_at short_text_at)))

unfoldable pub fields_at : Reading Fields
fields_at = both amounts_at (both period_at (both discount_at (both consumed_at tags_at)))

-- ---- a row

-- a row; fields that don't agree are a fault of the whole row, at its first byte
unfoldable pub row_at : Reading Charge
row_at = seen row_from (checked fields_agree fields_at)
