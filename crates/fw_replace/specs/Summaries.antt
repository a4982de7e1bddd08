-- What rows come to, and in which hours they begin.
use Rattle.std.specs.Prelude.{◌&&◌, ◌+ℤ◌, ℕ, ℤ, Bool, List, fold, max, min, nat_le, nat_lt, pos, if◌then◌else◌}
use Rattle.std.specs.List.{list_all, list_any}
use Rattle.fw_charge.specs.Charge.{Charge, hour_of, last_hour}
use Rattle.fw_replace.specs.declared.summary.Reach.{Reach}
use Rattle.fw_replace.specs.declared.summary.Reach.TheVariants as reach
use Rattle.fw_replace.specs.declared.summary.Summary.{Summary}

-- the first hour in which a row begins, and the last hour of all where there is no row
abbrev pub first_hour : List Charge → ℕ
first_hour rows = fold (λ hour c. min hour (hour_of c.start)) last_hour rows

-- the last hour in which a row begins, and 0 where there is no row
abbrev pub latest_hour : List Charge → ℕ
latest_hour rows = fold (λ hour c. max hour (hour_of c.start)) 0 rows

-- the exact sum of BilledCost
abbrev pub billed_sum : List Charge → ℤ
billed_sum rows = fold (λ sum c. sum +ℤ c.billed) (pos 0) rows

unfoldable pub summary_of : List Charge → Summary
summary_of rows = record { first_hour = first_hour rows; last_hour = latest_hour rows; billed = billed_sum rows }

-- a summary with one more row
abbrev pub summary_with : Summary → Charge → Summary
summary_with s c = record {
  first_hour = min s.first_hour (hour_of c.start);
  last_hour = max s.last_hour (hour_of c.start);
  billed = s.billed +ℤ c.billed;
}

-- whether a row begins in the hours from one on, up to and without another
abbrev pub begins_in : ℕ → ℕ → Charge → Bool
begins_in from to c = nat_le from (hour_of c.start) && nat_lt (hour_of c.start) to

-- rows are inside of a range where all begin in it, outside where none does, and else across
unfoldable pub reach_of : ℕ → ℕ → List Charge → Reach
reach_of from to rows =
    if list_any (begins_in from to) rows
    then (if list_all (begins_in from to) rows then reach.Inside else reach.Across)
    else reach.Outside
