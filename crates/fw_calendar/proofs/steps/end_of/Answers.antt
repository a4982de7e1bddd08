use Rattle.std.proofs.Common.{◌≡◌, ◌≤◌, below_more, subst, sym, refl, arith}
use Rattle.fw_calendar.specs.Periods.{IsPlace}
use Rattle.fw_calendar.proofs.steps.end_of.Goals as goal

pub loop-hour-init : goal.loop-hour-init
loop-hour-init c = λ h hi lo.
    let e : c.args.start ≡ h = omega arith in
    subst (λ x. IsPlace c.args.step x c.place-place.result) e c.place-place.ensures

pub loop-hour-preserved : goal.loop-hour-preserved
loop-hour-preserved c =
    let e : c.place.result ≡ c.place-place.result = cc in
    below_more (λ h. c.args.start ≤ h → IsPlace c.args.step h c.place-place.result) _ c.loop-hour.invariant
    (λ _. subst (λ p. IsPlace c.args.step c.loop-hour.hour p) e c.place.ensures)

pub returns-then-place : goal.returns-then-place
returns-then-place c = record {
  begins = refl;
  some = omega arith;
  within = omega arith;
  place = c.place-place.result;
  one = λ h lo hi. c.loop-hour.invariant h hi lo;
  longest = λ _. (c.place.result, c.place.ensures, λ e. absurd (omega arith));
}

pub returns : goal.returns
returns c = record {
  begins = refl;
  some = omega arith;
  within = omega arith;
  place = c.place-place.result;
  one = λ h lo hi. c.loop-hour.invariant h (omega arith) lo;
  longest = λ lt. absurd (omega arith);
}
