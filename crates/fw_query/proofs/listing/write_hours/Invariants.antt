use Rattle.std.proofs.Common.{◌≡◌, ◌+◌, List, ℕ, map, take}
use Rattle.fw_sums.specs.Hours.{lent, rows_of_list}
use Rattle.fw_query.specs.Listing.{WritesHours}
use Rattle.fw_query.specs.Writers.{HasWritten}
use Rattle.fw_query.proofs.listing.write_hours.Given as goal

-- the hours so far are written
abbrev pub invariant-loop-places : goal.invariant-loop-places
invariant-loop-places l = record {
  wrote : (text : List ℕ) → HasWritten l.initial.writer text → WritesHours l.writer text l.roster.commitments (map (rows_of_list (lent l.segments)) (take l.places-index l.by_hour)) l.from;
  at : l.hour ≡ l.from + l.places-index;
}
