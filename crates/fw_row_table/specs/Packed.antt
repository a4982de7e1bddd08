-- Lists that are packed into one buffer: one behind the other, with the places where they end.
use Rattle.std.specs.Prelude.{◌≡◌, ◌≤◌, ℕ, zero, suc, List, [], ◌∷◌, slice_range, slice_index_or}

-- the lists that end at these places of the values, of which the first begins at a place, and each other one where the one before it ends
unfoldable pub pieces : {X : Type 0} → ℕ → List X → List ℕ → List (List X)
pieces start values [] = []
pieces start values (end ∷ ends) = slice_range values start end ∷ pieces end values ends

-- the ends of lists rise, from where the first begins to where the values end
unfoldable pub AreEnds : ℕ → ℕ → List ℕ → Type 0
AreEnds start total [] = start ≡ total
AreEnds start total (end ∷ ends) = (start ≤ end) × AreEnds end total ends

-- where the list at a place begins
unfoldable pub start_of : ℕ → List ℕ → ℕ → ℕ
start_of start ends zero = start
start_of start ends (suc place) = slice_index_or ends place 0
