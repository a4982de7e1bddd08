use Rattle.std.proofs.Common.{◌≡◌, ◌+◌, ◌≤◌, ℕ, drop, length, replicate, true}
use Rattle.fw_sums.specs.ReportCache.{AreKeptUnder, kept_at}
use Rattle.fw_sums.specs.Hours.{all_rows, lent}
use Rattle.fw_sums.specs.Sums.{CountsHours}
use Rattle.fw_sums.proofs.CountedFacts.{hours_of, marked_costs}
use Rattle.fw_sums.proofs.groups.Groups.add_hours.Given as goal

-- the lines of the hours so far are counted, after the rows of the hours to come, what is kept is of these rows, and nothing was kept of later hours
abbrev pub invariant-loop-places : goal.invariant-loop-places
invariant-loop-places l = record {
  counted : CountsHours l.self (marked_costs l.key (drop l.places-index (replicate (length l.by_hour) true)) (l.from + l.places-index) (all_rows (lent l.segments))) l.key l.roster.commitments (hours_of (all_rows (lent l.segments)) l.from l.places-index) l.from;
  kept : AreKeptUnder l.roster.commitments (all_rows (lent l.segments)) l.key l.kept;
  later : (h : ℕ) → l.hour ≤ h → kept_at l.kept h ≡ kept_at l.initial.kept h;
  at : l.hour ≡ l.from + l.places-index;
}
