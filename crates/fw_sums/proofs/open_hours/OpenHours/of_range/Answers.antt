use Rattle.std.proofs.Common.{◌≡◌, ◌∙◌, ap, length}
use Rattle.fw_sums.specs.Hours.{AreTouched}
use Rattle.fw_sums.proofs.MarkFacts.{touched_long}
use Rattle.fw_sums.proofs.TurnFacts.{open_long, open_marks, open_rows}
use Rattle.fw_sums.proofs.open_hours.OpenHours.of_range.Goals as goal

pub open_hours-requires-clause-fits : goal.open_hours-requires-clause-fits
open_hours-requires-clause-fits c = rw (c.as_slice.ensures.value, touched_long _ _ _ _ c.in_ok-touched.ensures) c.requires

pub returns : goal.returns
returns c =
    let are : AreTouched c.args.commitments.now c.args.from c.args.hours c.in_ok-touched.touched.items = c.in_ok-touched.ensures in
    let marked : c.in_ok-marks.marks.items ≡ open_marks c.args.kept.now c.in_ok-touched.touched.items c.args.from = rw c.as_slice.ensures.value at c.in_ok-marks.ensures in
    let many : length c.in_ok-marks.marks.items ≡ c.args.hours = ap length marked ∙ open_long _ c.args.kept.now _ _ _ are in
    open_rows _ _ _ c.args.kept.now c.args.from c.args.hours _ are marked (rw (c.as_slice-2.ensures.value, many) at c.in_ok-by_hour.ensures)
