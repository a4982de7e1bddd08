-- The name of a group.
use Rattle.std.specs.Prelude.{ℕ, List, [], ◌∷◌, ◌++◌, codes}
use Rattle.std.specs.List.{flat_map}

-- the texts behind the first, each with a slash before it
abbrev pub behind : List (List ℕ) → List ℕ
behind texts = flat_map (λ text. codes " / " ++ text) texts

-- the texts of a group with a slash between them
abbrev pub group_name : List (List ℕ) → List ℕ
group_name [] = []
group_name (text ∷ texts) = text ++ behind texts
