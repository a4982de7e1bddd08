-- What each hour of a term carries of a total.
use Rattle.std.specs.Prelude.{ℕ, ◌+◌, ◌-◌}
use Rattle.fw_cover.specs.Part.{in_proportion}

-- what is carried before hour k, rounded down; k runs from 0 to the number of hours
abbrev pub carried_before : ℕ → ℕ → ℕ → ℕ
carried_before total hours k = in_proportion total hours k

-- hour k carries what is carried before the next hour, less what is carried before it
unfoldable pub amount_of : ℕ → ℕ → ℕ → ℕ
amount_of total hours k = carried_before total hours (k + 1) - carried_before total hours k
