use Rattle.std.proofs.Common.{◌≡◌, ◌∙◌, ℕ, ◌+◌, ◌-◌, ◌<◌, ap, arith, length, min}
use Rattle.std.specs.Prelude.{◌&&◌, nat_le, nat_lt}
use Rattle.std.proofs.lemmas.Bool.Decides.{nat_tests}
use Rattle.fw_sums.proofs.TouchedFacts.{adds_alike}
use Rattle.fw_sums.proofs.touched.mark_hours.Goals as goal

-- so of the hours up to the end
same_end : (end from len behind place k : ℕ) → behind ≡ min (end - from) len → place ≡ behind → k < len → nat_lt (from + k) (from + place) ≡ nat_lt (from + k) end
same_end end from len behind place k is at within = grind (arith, nat_tests)

pub returns : goal.returns
returns c =
    let place : c.loop-place.place ≡ c.min-behind.result = omega arith in
    adds_alike _ _ c.args.from c.args.marks.now c.loop-place.marks c.loop-place.invariant
    (λ k within. ap (λ b. nat_le c.args.first (c.args.from + k) && b) (same_end c.args.end c.args.from (length c.args.marks.now) c.min-behind.result c.loop-place.place k (c.min-behind.ensures ∙ ap (λ n. min n (length c.args.marks.now)) c.saturating_sub.ensures) place within))
