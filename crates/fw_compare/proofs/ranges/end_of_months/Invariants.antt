use Rattle.std.proofs.Common.{◌≤◌, ◌+◌}
use Rattle.fw_charge.specs.Charge.{last_hour}
use Rattle.fw_compare.specs.Ranges.{AreMonthsUpTo}
use Rattle.fw_compare.proofs.ranges.end_of_months.Given as goal

-- so many months so far
abbrev pub invariant-loop-month : goal.invariant-loop-month
invariant-loop-month l = record {
  so_far : AreMonthsUpTo l._month l.from l.end;
  within : l.end ≤ last_hour + 1;
}
