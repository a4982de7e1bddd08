-- What commitments took of rows, at the rows' own prices.
use Rattle.std.specs.Prelude.{ℕ, ℤ, ◌-◌, unsigned_abs}
use Rattle.fw_charge.specs.Charge.{Charge}
use Rattle.fw_cover.specs.Hour.{quantity_of}
use Rattle.fw_cover.specs.Part.{in_proportion}

-- the part of a cost of a row that falls to so much of its quantity, rounded down
unfoldable pub cost_of_left : ℤ → Charge → ℕ → ℕ
cost_of_left cost row left = in_proportion (unsigned_abs cost) (quantity_of row) left

-- what was taken of a row costs what was left of it before, less what is left of it after
unfoldable pub taken_cost : ℤ → Charge → ℕ → ℕ → ℕ
taken_cost cost row before after = cost_of_left cost row before - cost_of_left cost row after
