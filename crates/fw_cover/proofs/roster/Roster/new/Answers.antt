use Rattle.std.proofs.Common.{◌∙◌, refl}
use Rattle.fw_cover.proofs.Listing.{map_places}
use Rattle.fw_cover.proofs.roster.Roster.new.Goals as goal

pub invariant_of-result : goal.invariant_of-result
invariant_of-result c = record {
  order = c.in_ok-order.ensures ∙ (rw (c.deref.ensures.value, map_places c.in_ok-running.running.items, c.in_ok-running.ensures) refl);
  valid = c.in_ok-capacities.ensures.in_limits;
  capacities = c.in_ok-capacities.ensures.values;
  some = c.in_ok-table.ensures.some;
  sorted = c.in_ok-table.ensures.sorted;
  table_is = c.in_ok-table.ensures.value ∙ (rw (c.deref-2.ensures.value, c.in_ok-running.ensures) refl);
}
