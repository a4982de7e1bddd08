-- How often each text was counted, as a list.
use Rattle.std.specs.Prelude.{ℕ, ◌+◌, ◌<◌, List, unwrap_or}
use Rattle.std.specs.List.{AllByRecursion}
use Rattle.fw_persistent.specs.Values.{Values, value_at, with_value}

-- each text with its count
abbrev pub Counts : Type 0
Counts = Values ℕ

-- each text was counted once or more
abbrev pub AreCounted : Counts → Type 0
AreCounted counts = AllByRecursion (λ e. 0 < e.1) counts

-- how often a text was counted: 0 where it isn't there
abbrev pub count_of : List ℕ → Counts → ℕ
count_of text counts = unwrap_or (value_at text counts) 0

-- the counts once a text is counted once more: it comes to its place if it wasn't there
abbrev pub counted_once_more : List ℕ → Counts → Counts
counted_once_more text counts = with_value text (count_of text counts + 1) counts
