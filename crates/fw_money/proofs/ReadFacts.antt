-- The fraction of a text, in nanos.
use Rattle.std.proofs.Common.{◌≡◌, ℕ, ◌+◌, ◌*◌, ◌^◌, ◌++◌, length, ap, ◌∙◌, arith, ◌≤◌, List, length-append}
use Rattle.std.specs.Str.Parse.{digits_value}
use Rattle.std.proofs.lemmas.Nat.{pow-add}
use Rattle.fw_money.specs.Number.{Parts, Spells, places_right, places_left, numerator, denominator}
use Rattle.fw_money.specs.Nearest.{IsNearest}
use Rattle.fw_money.specs.Reading.{nanos_per_unit}
use Rattle.fw_money.proofs.Scale.{IsNearest-to}

-- the number that is nearest after the point was moved is the nearest count of nanos
pub nanos_of : (p : Parts) (raised lowered m : ℕ) → raised ≡ places_right p → lowered ≡ places_left p
    → IsNearest m (digits_value 10 (p.whole ++ p.fraction) * 10 ^ (raised + 9)) (10 ^ (length p.fraction + lowered)) → IsNearest m (numerator p * nanos_per_unit) (denominator p)
nanos_of p raised lowered m er el h =
    let d = digits_value 10 (p.whole ++ p.fraction) in
    let high : 10 ^ (raised + 9) ≡ 10 ^ raised * 1000000000 = pow-add 10 raised 9 in
    let top : d * 10 ^ (raised + 9) ≡ d * 10 ^ raised * 1000000000 = ap (λ x. d * x) high ∙ omega arith in
    let low : 10 ^ (length p.fraction + lowered) ≡ 10 ^ length p.fraction * 10 ^ lowered = pow-add 10 (length p.fraction) lowered in
    IsNearest-to m _ _ _ _ (top ∙ ap (λ k. d * 10 ^ k * 1000000000) er) (low ∙ ap (λ k. 10 ^ length p.fraction * 10 ^ k) el) h

-- parts of a short text are short
pub parts_short : (p : Parts) (t : List ℕ) → Spells p t → length p.whole + length p.fraction ≤ length t
parts_short p t h = rw h.in_turn (omega (arith, length-append {A = ℕ}))
