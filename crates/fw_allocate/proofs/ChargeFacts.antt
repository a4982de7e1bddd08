-- The sums of what the gifts take and bring.
use Rattle.std.proofs.Common.{◌≡◌, ℕ, ◌+◌, ◌*◌, ◌^◌, ◌<◌, ◌≤◌, List, [], ◌∷◌, ◌++◌, length, get_or, take, map, arith, ap, ◌∙◌, ℤ, pos, ◌+ℤ◌, ◌-ℤ◌, unsigned_abs, FitsSigned}
use Rattle.std.proofs.Common.{Result, Ok, Err, IfOk}
use Rattle.std.specs.Int.{w128}
use Rattle.std.specs.List.{AllZip}
use Rattle.std.proofs.lemmas.List.{map_more, take_more}
use Rattle.std.proofs.lemmas.List.Sums.{fold-append}
use Rattle.std.proofs.lemmas.Int.{ints}
use Rattle.fw_allocate.specs.Costs.{total}

-- one amount more
pub total_push : (xs : List ℤ) (x : ℤ) → total (xs ++ x ∷ []) ≡ total xs +ℤ x
total_push xs x = fold-append ◌+ℤ◌ (pos 0) xs (x ∷ [])

pub total_more : {X : Type 0} (f : X → ℤ) (xs : List X) (i : ℕ) (d : X) → i < length xs → total (map f (take (i + 1) xs)) ≡ total (map f (take i xs)) +ℤ f (get_or xs i d)
total_more f xs i d h = ap total (map_more f xs i d h) ∙ total_push (map f (take i xs)) (f (get_or xs i d))

pub sum_small : (a b : ℤ) (i : ℕ) → unsigned_abs a ≤ i * 10 ^ 19 → unsigned_abs b ≤ 10 ^ 19 → unsigned_abs (a +ℤ b) ≤ (i + 1) * 10 ^ 19
sum_small a b i p q = omega (arith, ints)

pub zip_push : {X Y : Type 0} (R : X → Y → Type 0) (xs : List X) (ys : List Y) (x : X) (y : Y) → AllZip R xs ys → R x y → AllZip R (xs ++ x ∷ []) (ys ++ y ∷ [])
zip_push R [] [] x y zip r = (r, tt)
zip_push R [] (b ∷ ys) x y zip r = absurd zip
zip_push R (a ∷ xs) [] x y zip r = absurd zip
zip_push R (a ∷ xs) (b ∷ ys) x y zip r = (zip.0, zip_push R xs ys x y zip.1 r)

pub zip_more : {X Y : Type 0} (R : X → Y → Type 0) (xs : List X) (ys : List Y) (i : ℕ) (d : X) (y : Y) → i < length xs → AllZip R (take i xs) ys → R (get_or xs i d) y → AllZip R (take (i + 1) xs) (ys ++ y ∷ [])
zip_more R xs ys i d y h zip r = rw (take_more xs i d h) (zip_push R (take i xs) ys (get_or xs i d) y zip r)

-- ---- what a group is charged fits
pub sub_fits : (a b : ℤ) → unsigned_abs a ≤ 10 ^ 19 → unsigned_abs b ≤ 64 * 10 ^ 19 → FitsSigned w128 (a -ℤ b)
sub_fits a b p q = omega (arith, ints)

pub add_fits : (a b d : ℤ) → unsigned_abs a ≤ 10 ^ 19 → unsigned_abs b ≤ 64 * 10 ^ 19 → unsigned_abs d ≤ 64 * 10 ^ 19 → FitsSigned w128 ((a -ℤ b) +ℤ d)
add_fits a b d p q r = omega (arith, ints)

pub if_ok : {T E : Type 0} (P Q : T → Type 0) (r : Result T E) → ((v : T) → P v → Q v) → IfOk r P → IfOk r Q
if_ok P Q (Ok v) more h = more v h
if_ok P Q (Err e) more h = tt
