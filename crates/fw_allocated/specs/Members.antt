-- The members of a row's object, as they are written one after the other. The private functions that write objects cite it.
use Rattle.std.specs.Prelude.{◌++◌, ◌∷◌, ℕ, List, [], Option, codes}
use Rattle.serde_json.specs.Written.{compact_text}
use Rattle.fw_allocated.specs.Objects.{cell_data}

-- a cell under its name, which is a string of JSON, with a comma behind it
abbrev pub member_before : List ℕ → Option (List ℕ) → List ℕ
member_before name cell = name ++ (58 ∷ (compact_text (cell_data cell) ++ 44 ∷ []))

-- cells under their names, each with a comma behind it
abbrev pub members_before : List (List ℕ) → List (Option (List ℕ)) → List ℕ
members_before [] cells = []
members_before (name ∷ names) [] = []
members_before (name ∷ names) (cell ∷ cells) = member_before name cell ++ members_before names cells

-- an object on a line of its own: cells under their names, and tags behind them
abbrev pub object_line : List (List ℕ) → List (Option (List ℕ)) → List ℕ → List ℕ
object_line names cells tags = 123 ∷ (members_before names cells ++ (codes "\"Tags\":" ++ (tags ++ 125 ∷ (10 ∷ []))))
