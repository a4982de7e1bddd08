-- What a commitment takes of one row, given what the two have left.
use Rattle.std.specs.Prelude.{◌≡◌, ℕ, ◌+◌, ◌*◌, ◌/◌, ◌%◌, ◌==◌, ◌<◌, ◌⊎◌, nat_le, min, if◌then◌else◌, Option, Some, None}
use Rattle.fw_cover.specs.declared.part.Part.{Part}

-- nothing: the row is skipped
abbrev pub no_part : Part
no_part = record { quantity = 0; weight = 0 }

-- a commitment to a quantity: u is left of the row, left of the commitment
abbrev pub usage_part_of : ℕ → ℕ → Part
usage_part_of u left = record { quantity = min u left; weight = min u left }

-- a quotient rounded up
abbrev pub ceil_div : ℕ → ℕ → ℕ
ceil_div a b = a / b + min 1 (a % b)

-- the part of an amount for some of a whole, rounded down: as the cost of what is left of a row
abbrev pub in_proportion : ℕ → ℕ → ℕ → ℕ
in_proportion amount whole some = amount * some / whole

-- what a commitment at a rate in ppm needs for u out of a row of quantity q billed b
abbrev pub need_of : ℕ → ℕ → ℕ → ℕ → ℕ
need_of b q ppm u = ceil_div (in_proportion b q u * ppm) 1000000

-- a commitment to a cost: all that is left of the row where its need fits, else the part that does, for all that is left of the commitment
abbrev pub spend_part_for : ℕ → ℕ → ℕ → Part
spend_part_for need u left =
    if need == 0 then no_part else
    (if nat_le need left then record { quantity = u; weight = need } else
    (if u * left / need == 0 then no_part else record { quantity = u * left / need; weight = left }))

abbrev pub spend_part_of : ℕ → ℕ → ℕ → ℕ → ℕ → Part
spend_part_of b q ppm u left = spend_part_for (need_of b q ppm u) u left

-- to a quantity, or to a cost at a rate
abbrev pub part_of : Option ℕ → ℕ → ℕ → ℕ → ℕ → Part
part_of None b q u left = usage_part_of u left
part_of (Some rate) b q u left = spend_part_of b q rate u left

-- why a commitment to a cost may leave u of a row, of quantity q and billed b, beside a capacity of which some is unused: what is left of the
-- row needs none of the capacity, or one nano of its quantity costs more, at the rate, than what is unused
abbrev pub IsOutOfReach : (b q ppm u unused : ℕ) → Type 0
IsOutOfReach b q ppm u unused = (need_of b q ppm u ≡ 0) ⊎ (unused * (q * 1000000) < b * ppm)
