-- Amounts have no byte for which another stands in a string of JSON.
use Rattle.std.proofs.Common.{◌≡◌, ◌∙◌, ◌+◌, ◌-◌, ◌/◌, ◌%◌, ◌<◌, ◌^◌, ℕ, zero, suc, ℤ, pos, negsuc, List, [], ◌∷◌, ◌++◌, ap, arith, drop, length, refl, replicate}
use Rattle.std.specs.Prelude.{nat_abs}
use Rattle.std.specs.Fmt.{decimal}
use Rattle.std.specs.List.{flat_map}
use Rattle.std.proofs.lemmas.Fmt.{decimal_by_steps_wide}
use Rattle.std.proofs.lemmas.Grind.{flat_map-append}
use Rattle.std.proofs.lemmas.List.{append_cancel_right}
use Rattle.serde_json.proofs.OnLiterals.{serde_json_on_literals}
use Rattle.fw_money.specs.Amount.{nanos_per_unit}
use Rattle.fw_money.specs.Writing.{nine_digits, sign_text, text_of}
use Rattle.fw_selections.specs.JsonMembers.{quoted}

-- a text stands for itself between quotes
abbrev pub IsPlain : List ℕ → Type 0
IsPlain text = quoted text ≡ 34 ∷ (text ++ 34 ∷ [])

-- what stands between quotes
inside : (x y : List ℕ) → 34 ∷ (x ++ 34 ∷ []) ≡ 34 ∷ (y ++ 34 ∷ []) → x ≡ y
inside x y same = append_cancel_right x y (34 ∷ []) (ap (drop 1) same)

both_plain : (f : ℕ → List ℕ) (a b : List ℕ) → flat_map f a ≡ a → flat_map f b ≡ b → flat_map f (a ++ b) ≡ a ++ b
both_plain f a b p q = flat_map-append f a b ∙ ap (λ t. t ++ flat_map f b) p ∙ ap (λ t. a ++ t) q

append_plain : (a b : List ℕ) → IsPlain a → IsPlain b → IsPlain (a ++ b)
append_plain a b p q = ap (λ t. 34 ∷ (t ++ 34 ∷ [])) (both_plain _ a b (inside _ a p) (inside _ b q))

one_plain : (k : ℕ) → k < 10 → IsPlain ((48 + k) ∷ [])
unfolding serde_json_on_literals
one_plain zero lt = refl
one_plain (suc zero) lt = refl
one_plain (suc (suc zero)) lt = refl
one_plain (suc (suc (suc zero))) lt = refl
one_plain (suc (suc (suc (suc zero)))) lt = refl
one_plain (suc (suc (suc (suc (suc zero))))) lt = refl
one_plain (suc (suc (suc (suc (suc (suc zero)))))) lt = refl
one_plain (suc (suc (suc (suc (suc (suc (suc zero))))))) lt = refl
one_plain (suc (suc (suc (suc (suc (suc (suc (suc zero)))))))) lt = refl
one_plain (suc (suc (suc (suc (suc (suc (suc (suc (suc zero))))))))) lt = refl
one_plain (suc (suc (suc (suc (suc (suc (suc (suc (suc (suc k)))))))))) lt = absurd (omega arith)

decimal_plain : (n : ℕ) → n < 10 ^ 64 → IsPlain (decimal n)
decimal_plain n lt = decimal_by_steps_wide (λ _ ds. IsPlain ds) (λ m small. one_plain m small) (λ m ds large is. append_plain ds ((48 + m % 10) ∷ []) is (one_plain (m % 10) (omega arith))) n lt

zeros_plain : (n : ℕ) → IsPlain (replicate n 48)
zeros_plain zero = refl
zeros_plain (suc n) = append_plain (48 ∷ []) (replicate n 48) (one_plain 0 (omega arith)) (zeros_plain n)

sign_plain : (z : ℤ) → IsPlain (sign_text z)
unfolding serde_json_on_literals
sign_plain (pos m) = refl
sign_plain (negsuc m) = refl

point_is_plain : IsPlain (46 ∷ [])
unfolding serde_json_on_literals
point_is_plain = refl

pub amount_plain : (z : ℤ) → nat_abs z < 10 ^ 64 → IsPlain (text_of z)
unfolding text_of
amount_plain z lt =
    let whole = decimal (nat_abs z / nanos_per_unit) in
    let rest = nine_digits (nat_abs z % nanos_per_unit) in
    let rest_plain : IsPlain rest = append_plain (replicate (9 - length (decimal (nat_abs z % nanos_per_unit))) 48) (decimal (nat_abs z % nanos_per_unit)) (zeros_plain _) (decimal_plain _ (omega arith)) in
    append_plain (sign_text z) (whole ++ 46 ∷ rest) (sign_plain z) (append_plain whole (46 ∷ rest) (decimal_plain _ (omega arith)) (append_plain (46 ∷ []) rest point_is_plain rest_plain))
