-- The second that an instant's text stands for.
use Rattle.std.specs.Prelude.{◌≡◌, ℕ, ◌*◌, List, pos, Ok}
use Rattle.jiff_fmt.specs.Temporal.{parse_timestamp}

abbrev pub nanos_per_second : ℕ
nanos_per_second = 1000000000

-- the text is read as the instant that begins this second since 1970
unfoldable pub IsSecond : List ℕ → ℕ → Type 0
IsSecond text second = parse_timestamp text ≡ Ok (pos (second * nanos_per_second))
