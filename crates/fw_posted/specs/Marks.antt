-- Marks that say of each item of a list whether it counts.
use Rattle.std.specs.Prelude.{◌+◌, ℕ, Bool, false, List, [], ◌∷◌, ◌++◌, take, drop, replicate, if◌then◌else◌}

-- the items whose mark is true, in order
unfoldable pub selected : {A : Type 0} → List Bool → List A → List A
selected [] items = []
selected (mark ∷ marks) [] = []
selected (mark ∷ marks) (item ∷ items) = if mark then item ∷ selected marks items else selected marks items

-- the marks, of which so many, from a place on, are false
unfoldable pub without : ℕ → ℕ → List Bool → List Bool
without start count marks = take start marks ++ replicate count false ++ drop (start + count) marks
