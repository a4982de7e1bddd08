-- The hours that may be asked for.
use Rattle.std.specs.Prelude.{◌+◌, ◌<◌, ◌≤◌, ℕ}

-- the most hours of a range
abbrev pub most_hours : ℕ
most_hours = 26304

-- there is at least one hour, and there are not too many
pub record IsRange (from to : ℕ) : Type 0 where
  pub some : from < to
  pub few : to ≤ from + most_hours
