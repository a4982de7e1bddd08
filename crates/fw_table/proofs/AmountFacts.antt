-- Digits in threes, and the text of an amount as it is put together.
use Rattle.std.proofs.Common.{◌≡◌, ℤ, nat_abs, ℕ, suc, ◌+◌, ◌*◌, ◌/◌, ◌%◌, ◌<◌, ◌≤◌, ◌-◌, ◌^◌, false, List, [], ◌∷◌, ◌++◌, length, drop, get_or, replicate, refl, sym, ap, arith, append-nil, append_assoc, length-drop, ◌∙◌}
use Rattle.std.proofs.lemmas.List.{drop_all}
use Rattle.std.proofs.Math.Seq.{drop-cons}
use Rattle.std.specs.Fmt.{padded_integral, format_spec, char_count}
use Rattle.fw_money.specs.Nearest.{IsNearest, distance}
use Rattle.std.specs.Fmt.{decimal}
use Rattle.fw_table.specs.Amounts.{IsCentsText, cent, comma_before, grouped, minus_text}

sub_none : (n : ℕ) → n - 0 ≡ n
sub_none n = omega arith

-- a format of two digits with zeros in front writes so many zeros and then the number
pub two_is : (ds : List ℕ) → padded_integral (format_spec 32 0 4 2 (2 ^ 64 - 1)) false [] ds ≡ replicate (2 - length ds) 48 ++ ds
unfolding padded_integral char_count
two_is ds = simp (append-nil, sub_none) refl

-- where half is passed, the next count of cents is the nearest
pub nearest_above : (n q r : ℕ) → n ≡ q * cent + r → r < cent → cent < 2 * r + q % 2 → IsNearest (q + 1) n cent
nearest_above n q r e small past = record { near = omega arith; even = λ h. omega (arith, h) }

pub nearest_below : (n q r : ℕ) → n ≡ q * cent + r → r < cent → 2 * r + q % 2 ≤ cent → IsNearest q n cent
nearest_below n q r e small past = record { near = omega arith; even = λ h. omega (arith, h) }

-- one more digit of those that are left
pub grouped_step : (ds : List ℕ) (place d : ℕ) → place < length ds → grouped (drop place ds) ≡ get_or ds place d ∷ (comma_before (length ds - place - 1) ++ grouped (drop (suc place) ds))
unfolding grouped
grouped_step ds place d within =
    let after : length (drop (suc place) ds) ≡ length ds - place - 1 = grind (arith, length-drop) in
    ap grouped (drop-cons ds place d within) ∙ ap (λ n. get_or ds place d ∷ (comma_before n ++ grouped (drop (suc place) ds))) after

-- the text with one more digit, and what is left
pub grouped_on : (text after ds : List ℕ) (place d : ℕ) → place < length ds → text ++ grouped (drop place ds) ≡ grouped ds
    → after ≡ text ++ get_or ds place d ∷ comma_before (length ds - place - 1) → after ++ grouped (drop (suc place) ds) ≡ grouped ds
grouped_on text after ds place d within kept added =
    rw added (append_assoc text (get_or ds place d ∷ comma_before (length ds - place - 1)) (grouped (drop (suc place) ds)) ∙ ap (λ rest. text ++ rest) (sym (grouped_step ds place d within)) ∙ kept)

-- nothing is left at the end
pub grouped_end : (text ds : List ℕ) (place : ℕ) → length ds ≤ place → text ++ grouped (drop place ds) ≡ grouped ds → text ≡ grouped ds
unfolding grouped
grouped_end text ds place end kept =
    let none : drop place ds ≡ [] = grind (arith, drop_all) in
    sym (append-nil text) ∙ rw none at kept

-- an amount's text, as it is put together
pub cents_from : (z : ℤ) (cents : ℕ) (text : List ℕ) → IsNearest cents (nat_abs z) cent
    → text ≡ minus_text z cents ++ (grouped (decimal (cents / 100)) ++ (46 ∷ padded_integral (format_spec 32 0 4 2 (2 ^ 64 - 1)) false [] (decimal (cents % 100))))
    → IsCentsText z text
cents_from z cents text near e = record { cents = cents; nearest = near; text_is = rw (two_is (decimal (cents % 100))) at e }
