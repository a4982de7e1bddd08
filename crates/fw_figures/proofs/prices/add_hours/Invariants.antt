use Rattle.std.proofs.Common.{◌≡◌, ◌+◌, map, take}
use Rattle.fw_sums.specs.Hours.{lent, rows_of_list}
use Rattle.fw_figures.specs.Prices.{AreCounted, HasCounted}
use Rattle.fw_figures.proofs.prices.add_hours.Given as goal

-- the hours so far are counted
abbrev pub invariant-loop-places : goal.invariant-loop-places
invariant-loop-places l = record {
  counted : HasCounted l.counter l.selector (AreCounted l.counted l.roster.commitments) l.from (map (rows_of_list (lent l.segments)) (take l.places-index l.by_hour));
  at : l.hour ≡ l.from + l.places-index;
}
