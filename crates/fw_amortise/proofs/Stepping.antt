-- One element more of a list that a loop goes over.
use Rattle.std.proofs.Common.{◌≡◌, ℕ, ◌+◌, ◌-◌, ◌<◌, ◌≤◌, List, [], ◌∷◌, ◌++◌, take, map, length, get_or, arith, refl, sym, ap, ◌∙◌, zero-add, append_assoc}
use Rattle.std.specs.List.{zip, enumerate_from, flat_map}
use Rattle.std.proofs.lemmas.List.{take_more, flat_map_more, map-append, get_or-map, get_or_default}
use Rattle.std.proofs.lemmas.List.FromFn.{length-enumerate_from, get_or-enumerate_from}
use Rattle.std.proofs.lemmas.Slice.Zip.{length-zip, get_or-zip}
use Rattle.fw_charge.specs.Charge.{Charge}
use Rattle.fw_cover.specs.declared.taken.Taken.{Taken}
use Rattle.fw_cover.specs.Cover.{taken_of_row}
use Rattle.fw_cover.specs.Hour.{quantity_of, quantities_of, left_of}
use Rattle.fw_amortise.specs.LineValue.{LineValue}
use Rattle.fw_amortise.specs.Lines.{rest_of}

pub flat_mapped_more : {X Y : Type 0} (f : X → List Y) (xs : List X) (i : ℕ) (x : X) (old all next : List Y) → i < length xs → x ≡ get_or xs i x → all ≡ old ++ flat_map f (take i xs) → next ≡ all ++ f x → next ≡ old ++ flat_map f (take (i + 1) xs)
flat_mapped_more f xs i x old all next h ex ea en =
    let more : take (i + 1) xs ≡ take i xs ++ x ∷ [] = take_more xs i x h ∙ ap (λ y. take i xs ++ y ∷ []) (sym ex) in
    en ∙ (rw (ea, more) (flat_map_more f old (take i xs) x))

pub mapped_more : {X Y : Type 0} (f : X → Y) (xs : List X) (i : ℕ) (x : X) (y : Y) (old all next : List Y) → i < length xs → x ≡ get_or xs i x → all ≡ old ++ map f (take i xs) → next ≡ all ++ y ∷ [] → y ≡ f x → next ≡ old ++ map f (take (i + 1) xs)
mapped_more f xs i x y old all next h ex ea en ey =
    let more : take (i + 1) xs ≡ take i xs ++ x ∷ [] = take_more xs i x h ∙ ap (λ y. take i xs ++ y ∷ []) (sym ex) in
    en ∙ (rw (ea, ey, more, map-append f (take i xs) (x ∷ [])) (append_assoc old (map f (take i xs)) (f x ∷ [])))

-- the pair at a place of two lists
pub zip_at : {A B : Type 0} (xs : List A) (ys : List B) (i : ℕ) (d : A) (e : B) → i < length xs → i < length ys → (get_or xs i d, get_or ys i e) ≡ get_or (zip xs ys) i (get_or xs i d, get_or ys i e)
zip_at xs ys i d e h k = sym (get_or-zip xs ys i (d, e) h k) ∙ get_or_default (zip xs ys) i (d, e) (get_or xs i d, get_or ys i e) (omega (arith, length-zip xs ys))

-- the element at a place, beside the place
pub place_at : {X : Type 0} (xs : List X) (i : ℕ) (x : X) → i < length xs → x ≡ get_or xs i x → (i, x) ≡ get_or (enumerate_from 0 xs) i (i, x)
place_at xs i x h e = rw (get_or-enumerate_from 0 xs i (i, x) h, zero-add i) (rw (← e) refl)

-- what is left of a row, and what was taken of it, are its quantity
pub left_within : (rows : List Charge) (i left taken : ℕ) (row : Charge) → i < length rows → row ≡ get_or rows i row → taken + left ≡ get_or (quantities_of rows) i 0 → left ≤ quantity_of row
left_within rows i left taken row h e sum =
    let here : get_or (quantities_of rows) i 0 ≡ quantity_of row = get_or-map quantity_of rows i row 0 h ∙ ap quantity_of (sym e) in
    omega (arith, sum, here)

pub rests_more : (hour : ℕ) (rows : List Charge) (taken : List Taken) (i left : ℕ) (row : Charge) (old all next : List LineValue) → i < length rows → row ≡ get_or rows i row → taken_of_row i taken + left ≡ get_or (quantities_of rows) i 0 → all ≡ old ++ flat_map (λ r. rest_of hour r.1 (left_of rows taken r.0)) (take i (enumerate_from 0 rows)) → next ≡ all ++ rest_of hour row left → next ≡ old ++ flat_map (λ r. rest_of hour r.1 (left_of rows taken r.0)) (take (i + 1) (enumerate_from 0 rows))
unfolding left_of
rests_more hour rows taken i left row old all next h er sum ea en =
    let is_left : left ≡ get_or (quantities_of rows) i 0 - taken_of_row i taken = omega (arith, sum) in
    flat_mapped_more (λ r. rest_of hour r.1 (left_of rows taken r.0)) (enumerate_from 0 rows) i (i, row) old all next
    (omega (arith, length-enumerate_from 0 rows)) (place_at rows i row h er) ea
    (en ∙ ap (λ u. all ++ rest_of hour row u) is_left)
