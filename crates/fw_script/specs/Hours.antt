-- The times of a command, which stand on whole hours.
use Rattle.std.specs.Prelude.{◌≡◌, ◌*◌, ℕ, List, Ok, pos, IsUtf8}
use Rattle.jiff_fmt.specs.Temporal.{parse_timestamp}

-- the nanoseconds of an hour
abbrev pub hour_nanoseconds : ℕ
hour_nanoseconds = 3600000000000

-- the text is the instant at which this hour begins, in hours since 1970
unfoldable pub IsHourText : List ℕ → ℕ → Type 0
IsHourText text hour = IsUtf8 text × (parse_timestamp text ≡ Ok (pos (hour * hour_nanoseconds)))
