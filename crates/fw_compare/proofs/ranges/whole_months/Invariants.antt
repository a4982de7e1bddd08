use Rattle.std.proofs.Common.{◌≡◌, ◌≤◌, ◌+◌, ◌-◌, ℕ}
use Rattle.fw_charge.specs.Charge.{last_hour}
use Rattle.fw_compare.specs.Ranges.{AreMonthsUpTo, BeginsMonth}
use Rattle.fw_compare.proofs.ranges.whole_months.Given as goal

-- so many months so far; and months that are the range go on from here
abbrev pub invariant-loop-end : goal.invariant-loop-end
invariant-loop-end l = record {
  begins : BeginsMonth l.hours.from;
  so_far : AreMonthsUpTo l.months l.hours.from l.end;
  rest : (n : ℕ) → AreMonthsUpTo n l.hours.from l.hours.to → (k : ℕ) × AreMonthsUpTo k l.end l.hours.to × (n ≡ l.months + k);
  some : l.hours.from + l.months ≤ l.end;
  within : l.end ≤ last_hour + 1;
}

abbrev pub decreases-loop-end : goal.decreases-loop-end
decreases-loop-end l = l.hours.to - l.end
