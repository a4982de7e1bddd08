-- The row that a line is exported as.
use Rattle.std.specs.Prelude.{◌+◌, ◌*◌, false, Option, option_and_then}
use Rattle.std.specs.Option.{option_map_or}
use Rattle.fw_charge.specs.Charge.{Charge, seconds_per_hour}
use Rattle.fw_amortise.specs.LineValue.{LineValue}

-- a line of a row has the row's class, period and unit. A line of a commitment alone has the hour that it is of as its period, and neither a class
-- nor a unit. All else is the line's own
unfoldable pub exported : Option Charge → LineValue → Charge
exported row line = record {
  billed = line.billed;
  effective = line.effective;
  category = line.category;
  is_correction = option_map_or (λ r. r.is_correction) row false;
  start = option_map_or (λ r. r.start) row (line.hour * seconds_per_hour);
  end = option_map_or (λ r. r.end) row ((line.hour + 1) * seconds_per_hour);
  discount = line.commitment;
  quantity = line.quantity;
  unit = option_and_then (λ r. r.unit) row;
  sku = line.sku;
  sub_account = line.sub_account;
  tags = line.tags;
}
