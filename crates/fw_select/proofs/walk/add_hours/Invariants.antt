use Rattle.std.proofs.Common.{◌≡◌, ◌+◌, map, take}
use Rattle.fw_sums.specs.Hours.{lent, rows_of_list}
use Rattle.fw_select.specs.Counting.{CountsHours}
use Rattle.fw_select.specs.Rows.{IsCount}
use Rattle.fw_select.proofs.walk.add_hours.Given as goal

-- the hours so far are counted
abbrev pub invariant-loop-places : goal.invariant-loop-places
invariant-loop-places l = record {
  counted : CountsHours l.count.table l.selector l.roster.commitments (map (rows_of_list (lent l.segments)) (take l.places-index l.by_hour)) l.from;
  at : l.hour ≡ l.from + l.places-index;
  count : IsCount l.selector (lent l.segments) l.count;
}
