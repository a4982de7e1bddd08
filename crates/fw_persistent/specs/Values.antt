-- Values at texts, as a list.
use Rattle.std.specs.Prelude.{ℕ, List, Option, IsTrue}
use Rattle.std.specs.Ordering.{nat_cmp}
use Rattle.std.specs.Cmp.Lexicographic.{slice_cmp}
use Rattle.std.specs.FinMap.{find, put, is_sorted}

-- each text with its value
abbrev pub Values : Type 0 → Type 0
Values V = List (List ℕ × V)

-- the texts rise by the order of their bytes, so none is there twice
abbrev pub IsRising : {V : Type 0} → Values V → Type 0
IsRising values = IsTrue (is_sorted (slice_cmp nat_cmp) values)

-- the value at a text, if there is one
abbrev pub value_at : {V : Type 0} → List ℕ → Values V → Option V
value_at text values = find (slice_cmp nat_cmp) text values

-- the values once a text has this one: the text comes to its place if it wasn't there
abbrev pub with_value : {V : Type 0} → List ℕ → V → Values V → Values V
with_value text value values = put (slice_cmp nat_cmp) text value values
