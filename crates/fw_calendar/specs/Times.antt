-- Times as people write them.
use Rattle.std.specs.Prelude.{◌==◌, ◌++◌, ◌*◌, ℕ, List, [], length, codes, if◌then◌else◌}
use Rattle.fw_charge.specs.Charge.{seconds_per_hour}
use Rattle.fw_instants.specs.Instants.{IsSecond}

-- what makes a text that of an instant: a month, as 2024-01, begins with its first day, and a date with its first hour
unfoldable pub tail_of : List ℕ → List ℕ
tail_of text = if length text == 7 then codes "-01T00:00Z" else (if length text == 10 then codes "T00:00Z" else [])

-- the text is a month, a date or an instant that begins with this hour, in hours since 1970
unfoldable pub IsTimeText : List ℕ → ℕ → Type 0
IsTimeText text hour = IsSecond (text ++ tail_of text) (hour * seconds_per_hour)
