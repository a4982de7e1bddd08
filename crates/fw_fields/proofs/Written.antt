-- Writing items one after the other.
use Rattle.std.proofs.Common.{◌≡◌, ◌+◌, ℕ, List, [], ◌∷◌, ◌++◌, take, slice_get, All, Some, sym, ap, subst, ◌∙◌, append_assoc, append-nil}
use Rattle.std.specs.List.{flat_map}
use Rattle.std.proofs.lemmas.List.{take_more}
use Rattle.std.proofs.lemmas.List.Concat.{flat_map-append}
use Rattle.std.proofs.lemmas.List.Elements.{All-more}
use Rattle.std.proofs.lemmas.Option.{slice_get_within, get_or_from_slice_get}

taken_more : {A : Type 0} (xs : List A) (i : ℕ) (x : A) → slice_get xs i ≡ Some x → take (i + 1) xs ≡ take i xs ++ x ∷ []
taken_more {A = A} xs i x h = take_more xs i x (slice_get_within xs i x h) ∙ ap (λ (y : A). take i xs ++ y ∷ []) (get_or_from_slice_get xs i x x h)

-- behind what was written before and a count, the items so far and one more
pub written_more : {A : Type 0} (spell : A → List ℕ) (first count : List ℕ) (xs : List A) (i : ℕ) (x : A) (out new : List ℕ) → slice_get xs i ≡ Some x → out ≡ first ++ (count ++ flat_map spell (take i xs)) → new ≡ out ++ spell x → new ≡ first ++ (count ++ flat_map spell (take (i + 1) xs))
written_more spell first count xs i x out new h so_far put =
    let items : flat_map spell (take (i + 1) xs) ≡ flat_map spell (take i xs) ++ spell x =
    ap (flat_map spell) (taken_more xs i x h) ∙ (flat_map-append spell (take i xs) (x ∷ []) ∙ ap (λ (w : List ℕ). flat_map spell (take i xs) ++ w) (append-nil (spell x))) in
    rw items (put ∙ (ap (λ (w : List ℕ). w ++ spell x) so_far ∙ (simp append_assoc)))

pub all_more : {A : Type 0} (P : A → Type 0) (xs : List A) (i : ℕ) (x : A) → slice_get xs i ≡ Some x → All P (take i xs) → P x → All P (take (i + 1) xs)
all_more P xs i x h so_far one = All-more P xs i x (slice_get_within xs i x h) so_far (subst P (sym (get_or_from_slice_get xs i x x h)) one)
