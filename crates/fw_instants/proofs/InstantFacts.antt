-- What the second of a count of nanoseconds says of an instant's text.
use Rattle.std.proofs.Common.{◌≡◌, ◌+◌, ◌*◌, ◌<ℤ◌, arith, ℕ, ℤ, pos, Option, Some, None, Ok, sym, ap, ◌∙◌, List}
use Rattle.std.specs.Prelude.{MatchOption}
use Rattle.jiff_fmt.specs.Temporal.{parse_timestamp}
use Rattle.jiff.proofs.SpanFacts.{signed_arith}
use Rattle.fw_charge.specs.Charge.{last_second}
use Rattle.fw_instants.specs.Instants.{IsSecond, nanos_per_second}
use Rattle.jiff.specs.Words.{IsTimestampNanos}

pub second_from : (text : List ℕ) (n : ℤ) (r : Option ℕ) → parse_timestamp text ≡ Ok n → MatchOption r ((s : ℕ) → ¬ (n ≡ pos (s * nanos_per_second))) (λ s. n ≡ pos (s * nanos_per_second))
    → MatchOption r ((s : ℕ) → ¬ IsSecond text s) (λ s. IsSecond text s)
unfolding IsSecond
second_from text n None p h = λ s k. h s (let both = sym p ∙ k in cc)
second_from text n (Some s) p h = p ∙ ap (λ z. Ok z) h

-- the instants that are read end within the year 9999
pub nanos_fit : (n : ℤ) → IsTimestampNanos n → n <ℤ pos ((last_second + 1) * nanos_per_second)
nanos_fit n fits = let most = fits.1 in omega (arith, signed_arith)
