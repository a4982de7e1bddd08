-- The charge rows that commitments may cover.
use Rattle.std.specs.Prelude.{ℕ, ◌+◌, ◌%◌, ◌==◌, ◌&&◌, not, Bool, true, false, Option, Some, None, is_some, is_none, ℤ, pos, int_lt}
use Rattle.fw_charge.specs.Charge.{Charge, hour_of, seconds_per_hour}
use Rattle.fw_charge.specs.declared.Category.{Category}
use Rattle.fw_charge.specs.declared.Category.TheVariants as category

abbrev pub is_usage : Category → Bool
is_usage category.Usage = true
is_usage _ = false

-- from a whole hour to the next one
abbrev pub is_one_hour : ℕ → ℕ → Bool
is_one_hour start end = (start % seconds_per_hour == 0) && (end == start + seconds_per_hour)

abbrev pub is_positive : Option ℤ → Bool
is_positive None = false
is_positive (Some q) = int_lt (pos 0) q

-- a use of exactly one clock hour that belongs to no commitment yet and is no correction
abbrev pub is_open_use : Charge → Bool
is_open_use row = is_usage row.category && is_none row.discount && not row.is_correction && is_one_hour row.start row.end

-- a quantity above 0, a SKU, and no cost below 0
abbrev pub is_measured : Charge → Bool
is_measured row = is_positive row.quantity && not (int_lt row.billed (pos 0)) && not (int_lt row.effective (pos 0)) && is_some row.sku

-- the rows that commitments may cover
unfoldable pub is_eligible : Charge → Bool
is_eligible row = is_open_use row && is_measured row

-- whether a row is of an hour
unfoldable pub is_of_hour : ℕ → Charge → Bool
is_of_hour hour row = hour_of row.start == hour
