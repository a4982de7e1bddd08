-- Sums of integers, and of costs.
use Rattle.std.proofs.Common.{◌≡◌, ◌∙◌, ℤ, pos, ◌+ℤ◌, List, [], ◌∷◌, ◌++◌, map, fold, ap, arith}
use Rattle.std.proofs.lemmas.Int.{ints}
use Rattle.std.proofs.lemmas.List.{map-append}
use Rattle.fw_compare.specs.Costs.{sums_of, total, with}
use Rattle.fw_compare.specs.declared.costs.Costs.{Costs}

shift : (a : ℤ) (xs : List ℤ) → fold ◌+ℤ◌ a xs ≡ a +ℤ total xs
shift a [] = omega (arith, ints)
shift a (x ∷ xs) = let one = shift (a +ℤ x) xs in let two = shift (pos 0 +ℤ x) xs in omega (arith, ints)

pub total_cons : (x : ℤ) (xs : List ℤ) → total (x ∷ xs) ≡ x +ℤ total xs
total_cons x xs = let one = shift (pos 0 +ℤ x) xs in omega (arith, ints)

pub total_append : (xs ys : List ℤ) → total (xs ++ ys) ≡ total xs +ℤ total ys
total_append [] ys = omega (arith, ints)
total_append (x ∷ xs) ys =
    let rest = total_append xs ys in
    let whole = total_cons x (xs ++ ys) in
    let front = total_cons x xs in
    omega (arith, ints)

pub total_push : (xs : List ℤ) (x : ℤ) → total (xs ++ x ∷ []) ≡ total xs +ℤ x
total_push xs x = let all = total_append xs (x ∷ []) in let one = total_cons x [] in omega (arith, ints)

-- costs are equal where their three amounts are
pub same_costs : (a b c x y z : ℤ) → a ≡ x → b ≡ y → c ≡ z
    → (let one : Costs = record { billed = a; effective = b; charged = c } in one) ≡ (let other : Costs = record { billed = x; effective = y; charged = z } in other)
same_costs a b c x y z p q r = λ j. record { billed = p j; effective = q j; charged = r j }

amount_push : (amount : Costs → ℤ) (cs : List Costs) (c : Costs) → total (map amount (cs ++ c ∷ [])) ≡ total (map amount cs) +ℤ amount c
amount_push amount cs c = ap total (map-append amount cs (c ∷ [])) ∙ total_push (map amount cs) (amount c)

-- the sums of some costs and one more
pub sums_push : (cs : List Costs) (c : Costs) → sums_of (cs ++ c ∷ []) ≡ with (sums_of cs) c
sums_push cs c = same_costs _ _ _ _ _ _
    (amount_push (λ x. x.billed) cs c)
    (amount_push (λ x. x.effective) cs c)
    (amount_push (λ x. x.charged) cs c)
