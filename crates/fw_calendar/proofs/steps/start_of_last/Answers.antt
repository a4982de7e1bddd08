use Rattle.std.proofs.Common.{◌≡◌, ◌≤◌, ◌<◌, ◌-◌, ℕ, rules, arith, refl, subst, inl, inr}
use Rattle.std.proofs.lemmas.Bool.{cases_lt}
use Rattle.fw_calendar.specs.Periods.{IsPlace}
use Rattle.fw_calendar.proofs.steps.start_of_last.Goals as goal

pub returns-in_default : goal.returns-in_default
returns-in_default c = record {
  within = omega arith;
  last = c.place.result;
  here = c.place.ensures;
  all = λ _. refl;
  one = λ le. absurd (search rules);
  longest = λ lt. absurd (omega arith);
}

pub loop-start-init : goal.loop-start-init
loop-start-init c = (
  omega arith,
  λ other from to.
      let e : c.args.hour ≡ other = omega arith in
      (c.place.result, subst (λ h. IsPlace c.args.step h c.place.result) e c.place.ensures, search rules),
)

pub loop-start-preserved : goal.loop-start-preserved
loop-start-preserved c = (
  omega arith,
  λ other from to. elim (cases_lt other c.loop-start.start) [
    | inl lt ↦
        let e : c.loop-start.start - 1 ≡ other = omega arith in (
          c.place-in-loop-start.result,
          subst (λ h. IsPlace c.args.step h c.place-in-loop-start.result) e c.place-in-loop-start.ensures,
          c.if-place-before.true,
        )
    | inr le ↦ c.loop-start.invariant.1 other le to
  ],
)

pub returns-else-place-before : goal.returns-else-place-before
returns-else-place-before c = record {
  within = c.loop-start.invariant.0;
  last = c.place.result;
  here = c.place.ensures;
  all = λ lt. absurd (search rules);
  one = λ le other from to. let found = c.loop-start.invariant.1 other from to in (found.0, found.1, search rules);
  longest = λ lt. (c.place-in-loop-start.result, c.place-in-loop-start.ensures, search rules);
}

pub returns-after-loop-start : goal.returns-after-loop-start
returns-after-loop-start c = record {
  within = c.loop-start.invariant.0;
  last = c.place.result;
  here = c.place.ensures;
  all = λ lt. absurd (search rules);
  one = λ le other from to. let found = c.loop-start.invariant.1 other from to in (found.0, found.1, search rules);
  longest = λ lt. absurd (omega arith);
}
