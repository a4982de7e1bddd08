use Rattle.std.proofs.Common.{◌≤◌, ℕ, length, slice_index, slice_index_or}
use Rattle.fw_columns.proofs.SkuFacts.{AreRuns, hour_list, hour_places}
use Rattle.fw_columns.proofs.by_sku.SkusByHour.of_rows.Given as goal

-- the codes of the hours so far and their places, no more codes than rows, and what is noted is of these codes
abbrev pub invariant-loop-number : goal.invariant-loop-number
invariant-loop-number l = record {
  codes : AreRuns (hour_list l.skus l.by_hour) l.number l.codes.items l.before.items;
  places : AreRuns (hour_places l.skus l.by_hour) l.number l.places l.before.items;
  few : length l.codes.items ≤ slice_index l.by_hour.before.items l.number;
  noted : (c : ℕ) → slice_index_or l.met.last.items c 0 ≤ length l.codes.items;
}
