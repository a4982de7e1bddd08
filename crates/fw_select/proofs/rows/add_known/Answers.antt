use Rattle.std.proofs.Common.{◌≡◌, ◌∙◌, ◌<◌, Some, get_or, length, slice_get, subst}
use Rattle.fw_select.specs.Table.{AreSums}
use Rattle.fw_select.proofs.PlainFacts.{row_there, rows_more}
use Rattle.fw_select.proofs.rows.add_known.Goals as goal

pub loop-place-preserved : goal.loop-place-preserved
loop-place-preserved c =
    let s = c.args.selector.now in
    let rows = c.args.segment.now in
    let places = c.args.places.now in
    let i = c.loop-place.place-index in
    let kept = c.loop-place.invariant in
    let done = c.in_ok-add_row.ensures in
    let there = row_there rows (get_or places i 0) (c.requires.within i 0 c.loop-place-test.true) in
    let at : slice_get rows c.from.result ≡ Some there.0 = rw c.from.ensures there.1 in
    record {
      sums = λ before sums. subst (AreSums c.add_row.new.table) (rows_more s before rows places i there.0 c.loop-place-test.true there.1) (done.sums _ there.0 at (kept.sums before sums));
      kept = record { each = λ place group is. done.kept.each place group (kept.kept.each place group is) };
      known = done.known;
      room = c.add_row.ensures.room;
    }
