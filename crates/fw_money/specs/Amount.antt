-- The unit of amounts, and their bound.
use Rattle.std.specs.Prelude.{ℕ}

-- nanos in one unit of the currency: a nano is 10^-9 of the unit
abbrev pub nanos_per_unit : ℕ
nanos_per_unit = 1000000000

-- the greatest absolute value of an amount, in nanos: 100,000,000 units
abbrev pub most_nanos : ℕ
most_nanos = 100000000000000000
