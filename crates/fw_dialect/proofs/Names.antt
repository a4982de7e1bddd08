-- The names of columns.
use Rattle.std.proofs.Common.{◌≡◌, ℕ, zero, suc, Option, Some, None, List, [], ◌∷◌, get_or, refl}
use Rattle.std.specs.Borrow.{Bor}
use Rattle.std.specs.Option.{option_map, unwrap_or}
use Rattle.csv.specs.Records.{field_at}

-- the field that is lent, or the empty one
pub lent : (o : Option (Bor (List ℕ))) (none : Bor (List ℕ)) (x : Option (List ℕ)) → option_map (λ s. s.now) o ≡ x → none.now ≡ [] → (unwrap_or o none).now ≡ unwrap_or x []
lent None none None e empty = empty
lent None none (Some x) e empty = absurd (cc)
lent (Some s) none None e empty = absurd (cc)
lent (Some s) none (Some x) e empty = cc

pub field_or : (fields : List (List ℕ)) (place : ℕ) → unwrap_or (field_at fields place) [] ≡ get_or fields place []
unfolding field_at
field_or [] place = refl
field_or (f ∷ fields) zero = refl
field_or (f ∷ fields) (suc place) = field_or fields place
