-- The fields of a record.
use Rattle.std.proofs.Common.{◌≡◌, ℕ, zero, suc, Option, Some, None, List, [], ◌∷◌, get_or, refl}
use Rattle.std.specs.Option.{option_map, unwrap_or}
use Rattle.std.specs.Borrow.{Bor}
use Rattle.csv.specs.Records.{field_at}

-- the field that is lent, or the empty one
pub lent_field : (o : Option (Bor (List ℕ))) (none : Bor (List ℕ)) (x : Option (List ℕ)) → option_map (λ s. s.now) o ≡ x → none.now ≡ [] → (unwrap_or o none).now ≡ unwrap_or x []
lent_field None none None e empty = empty
lent_field None none (Some x) e empty = absurd (cc)
lent_field (Some s) none None e empty = absurd (cc)
lent_field (Some s) none (Some x) e empty = cc

-- the field at a place, or the empty one
pub field_or : (fields : List (List ℕ)) (i : ℕ) → unwrap_or (field_at fields i) [] ≡ get_or fields i []
unfolding field_at
field_or [] i = refl
field_or (f ∷ fs) zero = refl
field_or (f ∷ fs) (suc i) = field_or fs i
