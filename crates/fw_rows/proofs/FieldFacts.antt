-- The fields of a record by their places.
use Rattle.std.proofs.Common.{◌≡◌, ℕ, zero, suc, ◌<◌, Option, Some, None, List, [], ◌∷◌, length, get_or, refl, sym, ◌∙◌, arith}
use Rattle.std.specs.Option.{option_map, IsSome}
use Rattle.std.specs.Borrow.{Bor}
use Rattle.csv.specs.Records.{field_at}

pub field_at-get_or : (fs : List (List ℕ)) (i : ℕ) (d : List ℕ) → i < length fs → field_at fs i ≡ Some (get_or fs i d)
unfolding field_at
field_at-get_or [] i d lt = absurd (omega arith)
field_at-get_or (f ∷ fs) zero d lt = refl
field_at-get_or (f ∷ fs) (suc i) d lt = field_at-get_or fs i d (omega arith)

pub get_or-field_at : (fs : List (List ℕ)) (i : ℕ) (d x : List ℕ) → i < length fs → field_at fs i ≡ Some x → get_or fs i d ≡ x
get_or-field_at fs i d x lt e = let both = sym (field_at-get_or fs i d lt) ∙ e in cc

-- a place within a record has a field
pub is_some-field_at : (fs : List (List ℕ)) (i : ℕ) (o : Option (Bor (List ℕ))) → i < length fs → option_map (λ s. s.now) o ≡ field_at fs i → IsSome o
is_some-field_at fs i None lt e = let both = e ∙ field_at-get_or fs i [] lt in absurd (cc)
is_some-field_at fs i (Some b) lt e = refl
