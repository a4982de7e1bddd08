-- The hour of the second that an instant's text stands for.
use Rattle.std.proofs.Common.{◌≡◌, ◌*◌, ◌++◌, arith, ℕ, List, Option, Some, None, sym, ap, ◌∙◌}
use Rattle.std.specs.Prelude.{MatchOption, Ok, pos}
use Rattle.fw_charge.specs.Charge.{seconds_per_hour}
use Rattle.fw_instants.specs.Instants.{IsSecond, nanos_per_second}
use Rattle.fw_calendar.specs.Times.{IsTimeText, tail_of}

-- a text stands for one second
second_is_one : (text : List ℕ) (s t : ℕ) → IsSecond text s → IsSecond text t → s ≡ t
unfolding IsSecond
second_is_one text s t a b = let both = sym a ∙ b in let same : s * nanos_per_second ≡ t * nanos_per_second = cc in omega (arith, same)

pub hour_of_second : (text : List ℕ) (s : ℕ) (r : Option ℕ) → IsSecond (text ++ tail_of text) s → MatchOption r ((h : ℕ) → ¬ (s ≡ h * seconds_per_hour)) (λ h. s ≡ h * seconds_per_hour)
    → MatchOption r ((h : ℕ) → ¬ IsTimeText text h) (IsTimeText text)
unfolding IsTimeText
hour_of_second text s None reads none = λ h is. none h (second_is_one _ s (h * seconds_per_hour) reads is)
hour_of_second text s (Some h) reads e = rw (sym e) reads

pub no_hour : (text : List ℕ) → ((s : ℕ) → ¬ IsSecond (text ++ tail_of text) s) → (h : ℕ) → ¬ IsTimeText text h
unfolding IsTimeText
no_hour text none h is = none (h * seconds_per_hour) is
