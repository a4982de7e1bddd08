use Rattle.fw_sums.proofs.MarkFacts.{touched_long}
use Rattle.fw_sums.proofs.TurnFacts.{open_lists}
use Rattle.fw_sums.proofs.groups.Groups.of_hours.Goals as goal

pub add_hours-requires-clause-fits : goal.add_hours-requires-clause-fits
add_hours-requires-clause-fits c = rw c.as_slice.ensures.value c.requires.fits

pub add_hours-requires-clause-roster : goal.add_hours-requires-clause-roster
add_hours-requires-clause-roster c = rw c.as_slice.ensures.value c.requires.roster

pub add_hours-requires-clause-many : goal.add_hours-requires-clause-many
add_hours-requires-clause-many c = rw (c.as_slice.ensures.value, c.as_slice-2.ensures.value) (touched_long _ _ _ _ c.requires.hours.touched)

pub add_hours-requires-clause-touched : goal.add_hours-requires-clause-touched
add_hours-requires-clause-touched c = rw (c.as_slice.ensures.value, c.as_slice-2.ensures.value) c.requires.hours.touched

pub add_hours-requires-clause-by_hour : goal.add_hours-requires-clause-by_hour
add_hours-requires-clause-by_hour c = rw c.as_slice.ensures.value (open_lists _ _ _ _ _ _ _ c.requires.hours)

pub add_hours-requires-clause-counts : goal.add_hours-requires-clause-counts
add_hours-requires-clause-counts c = rw c.as_slice.ensures.value c.requires.rows

pub returns-clause-groups : goal.returns-clause-groups
returns-clause-groups c = rw c.as_slice.ensures.value at c.in_ok-add_hours.ensures.counts
