-- The hour of a text is one.
use Rattle.std.proofs.Common.{◌≡◌, ◌*◌, ℕ, ℤ, pos, Option, Some, None, Ok, List, sym, ap, ◌∙◌, arith}
use Rattle.std.specs.Prelude.{IsUtf8, MatchOption}
use Rattle.jiff_fmt.specs.Temporal.{parse_timestamp}
use Rattle.fw_script.specs.Hours.{IsHourText, hour_nanoseconds}

pub hour_from : (text : List ℕ) (n : ℤ) (r : Option ℕ) → IsUtf8 text → parse_timestamp text ≡ Ok n
    → MatchOption r ((hour : ℕ) → ¬ (n ≡ pos (hour * hour_nanoseconds))) (λ hour. n ≡ pos (hour * hour_nanoseconds))
    → MatchOption r ((hour : ℕ) → ¬ IsHourText text hour) (IsHourText text)
unfolding IsHourText
hour_from text n None u p h = λ hour k. h hour (let both = sym p ∙ k.1 in cc)
hour_from text n (Some hour) u p h = (u, p ∙ ap (λ z. Ok z) h)

pub IsHourText-one : (text : List ℕ) (a b : ℕ) → IsHourText text a → IsHourText text b → a ≡ b
unfolding IsHourText
IsHourText-one text a b h k =
    let both = sym h.1 ∙ k.1 in
    let same : a * hour_nanoseconds ≡ b * hour_nanoseconds = cc in
    omega arith
