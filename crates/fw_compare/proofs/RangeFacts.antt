-- Lemmas on months in a row, and on the hours that a range is compared with.
use Rattle.std.proofs.Common.{◌≡◌, ◌∙◌, ◌⊎◌, ◌==◌, ℕ, zero, suc, ◌+◌, ◌-◌, ◌*◌, ◌<◌, ◌≤◌, Bool, MatchBool, ap, arith, false, inl, inr, refl, subst, sym, true, unsigned_abs}
use Rattle.std.proofs.lemmas.Bool.{cases_lt, eq-eqb, eqb-true}
use Rattle.jiff_core.proofs.DateLemmas.{epoch_day_injective}
use Rattle.fw_charge.specs.Charge.{last_hour}
use Rattle.fw_calendar.specs.Periods.{IsMonth, IsPlace, IsStart}
use Rattle.fw_calendar.specs.declared.steps.Period.{Period}
use Rattle.fw_calendar.specs.declared.steps.Step.TheVariants.{Month}
use Rattle.fw_compare.specs.Ranges.{AreBefore, AreFirstMonths, AreFrom, AreMonths, AreMonthsUpTo, AreNoMonths, BeginsMonth}

-- ---- there is one

-- an hour lies in one month
place_one : (hour a b : ℕ) → hour ≤ last_hour → IsPlace Month hour a → IsPlace Month hour b → a ≡ b
place_one hour a b dated x y =
    let p = x dated in
    let q = y dated in
    let same = epoch_day_injective p.0 q.0 (p.1.0 ∙ sym q.1.0) in
    p.2 ∙ ap (λ y. unsigned_abs y * 12 + p.0.month) same.0 ∙ ap (λ m. unsigned_abs q.0.year * 12 + m) same.1 ∙ sym q.2

starts_apart : (hour s t : ℕ) → hour ≤ last_hour → IsStart Month 1 hour s → IsStart Month 1 hour t → s < t → ⊥
starts_apart hour s t dated a b lt =
    let last = place_one hour a.last b.last dated a.here b.here in
    let within = b.within in
    let before = b.longest (omega (arith, lt)) in
    let here = a.one (omega (arith, last, before.2)) (t - 1) (omega (arith, lt)) (omega (arith, within)) in
    let same = place_one (t - 1) before.0 here.0 (omega (arith, within, dated)) before.1 here.1 in
    omega (arith, last, before.2, here.2, same)

-- a month has one beginning
start_one : (hour s t : ℕ) → hour ≤ last_hour → IsStart Month 1 hour s → IsStart Month 1 hour t → s ≡ t
start_one hour s t dated a b = elim (cases_lt s t) [
  | inl lt ↦ absurd (starts_apart hour s t dated a b lt)
  | inr le ↦ elim (cases_lt t s) [
    | inl lt ↦ absurd (starts_apart hour t s dated b a lt)
    | inr ge ↦ omega (arith, le, ge)
  ]
]

-- where the beginning of a month was found, a month begins with its hours just where that is the hour
pub begins_when : (hour start : ℕ) → hour ≤ last_hour → IsStart Month 1 hour start → MatchBool (start == hour) (BeginsMonth hour) (¬ BeginsMonth hour)
begins_when hour start dated is = both (start == hour) refl
  where
    both : (b : Bool) → (start == hour) ≡ b → MatchBool b (BeginsMonth hour) (¬ BeginsMonth hour)
    both true here = subst (IsStart Month 1 hour) (eqb-true start hour here) is
    both false apart = λ begins. let same : (start == hour) ≡ true = eq-eqb start hour (start_one hour start hour dated is begins) in let e : true ≡ false = sym same ∙ apart in cc

ends_apart : (from a b : ℕ) → IsMonth (record { from = from; to = a }) → IsMonth (record { from = from; to = b }) → a < b → ⊥
ends_apart from a b x y lt =
    let some = x.some in
    let within = y.within in
    let behind = x.longest (omega (arith, within, lt)) in
    let first = place_one from x.place y.place (omega (arith, some, within, lt)) (x.one from (omega arith) some) (y.one from (omega arith) (omega (arith, some, lt))) in
    let next = place_one a behind.0 y.place (omega (arith, within, lt)) behind.1 (y.one a (omega (arith, some)) lt) in
    behind.2 (next ∙ sym first)

-- a month has one end
pub month_one : (from a b : ℕ) → IsMonth (record { from = from; to = a }) → IsMonth (record { from = from; to = b }) → a ≡ b
month_one from a b x y = elim (cases_lt a b) [
  | inl lt ↦ absurd (ends_apart from a b x y lt)
  | inr le ↦ elim (cases_lt b a) [
    | inl lt ↦ absurd (ends_apart from b a y x lt)
    | inr ge ↦ omega (arith, le, ge)
  ]
]

-- ---- months in a row
pub months_rise : (n from to : ℕ) → AreMonthsUpTo n from to → from ≤ to
months_rise zero from to are = omega (arith, are)
months_rise (suc n) from to are = let some = are.1.some in let rest = months_rise n are.0 to are.2 in omega (arith, some, rest)

pub months_more : (n from mid to : ℕ) → AreMonthsUpTo n from mid → IsMonth (record { from = mid; to = to }) → AreMonthsUpTo (suc n) from to
months_more zero from mid to are last = (to, subst (λ h. IsMonth (record { from = h; to = to })) (sym are) last, refl)
months_more (suc n) from mid to are last = (are.0, are.1, months_more n are.0 mid to are.2 last)

-- what is left of months behind the first one
pub months_behind : (n from end to : ℕ) → IsMonth (record { from = from; to = end }) → from < to → AreMonthsUpTo n from to → (k : ℕ) × AreMonthsUpTo k end to × (n ≡ suc k)
months_behind zero from end to first lt are = absurd (omega (arith, lt, are))
months_behind (suc n) from end to first lt are = (n, subst (λ h. AreMonthsUpTo n h to) (month_one from are.0 end are.1 first) are.2, refl)

-- a range is so many months, and no other number of them
months_one : (n m from to : ℕ) → AreMonthsUpTo n from to → AreMonthsUpTo m from to → n ≡ m
months_one zero zero from to a b = refl
months_one zero (suc m) from to a b = let some = b.1.some in let rise = months_rise m b.0 to b.2 in absurd (omega (arith, a, some, rise))
months_one (suc n) zero from to a b = let some = a.1.some in let rise = months_rise n a.0 to a.2 in absurd (omega (arith, b, some, rise))
months_one (suc n) (suc m) from to a b =
    let same = month_one from b.0 a.0 b.1 a.1 in
    ap suc (months_one n m a.0 to a.2 (subst (λ h. AreMonthsUpTo m h to) same b.2))

pub AreMonths-one : (n m : ℕ) (hours : Period) → AreMonths n hours → AreMonths m hours → n ≡ m
AreMonths-one n m hours a b = months_one n m hours.from hours.to a.months b.months

-- ---- what a range is compared with
pub before_months : (hours : Period) (from n : ℕ) → 0 < hours.from → AreMonths n hours → IsStart Month n (hours.from - 1) from → AreBefore hours (record { from = from; to = hours.from })
before_months hours from n some are start = record {
  ends = refl;
  some = (let within = start.within in omega (arith, within, some));
  months = λ m also. subst (λ k. IsStart Month k (hours.from - 1) from) (AreMonths-one n m hours are also) start;
  others = λ none. absurd (none n are);
}

pub from_months : (hours : Period) (from end n : ℕ) → AreMonths n hours → BeginsMonth from → AreFirstMonths n from end → AreFrom hours from (record { from = from; to = end })
from_months hours from end n are begins months = record {
  begins = refl;
  months = λ m also _. subst (λ k. AreFirstMonths k from end) (AreMonths-one n m hours are also) months;
  others = λ other. elim other [
    | inl none ↦ absurd (none n are)
    | inr apart ↦ absurd (apart begins)
  ];
}
