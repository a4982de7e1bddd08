use Rattle.std.proofs.Common.{◌≡◌, ◌∷◌, [], Some, get_or, length, slice_get, subst, sym}
use Rattle.fw_select.specs.Rows.{plain_line}
use Rattle.fw_select.specs.Selectors.{costs_of}
use Rattle.fw_select.specs.Table.{AreSums}
use Rattle.fw_select.proofs.PlainFacts.{rows_more}
use Rattle.fw_select.proofs.rows.add_each.Goals as goal

pub loop-place-preserved : goal.loop-place-preserved
loop-place-preserved c =
    let s = c.args.selector.now in
    let rows = c.args.segment.now in
    let places = c.args.places.now in
    let i = c.loop-place.place-index in
    let kept = c.loop-place.invariant in
    let done = c.in_ok-add_line.ensures in
    let row = c.lent-row.result in
    let at : slice_get rows (get_or places i 0) ≡ Some row = rw c.from.ensures at c.lent-row.ensures in
    record {
      sums = λ before sums.
          subst (AreSums c.add_line.new.table) (rows_more s before rows places i row c.loop-place-test.true at) (rw c.plain_line.ensures at (done.sums _ (kept.sums before sums)));
      kept = record { each = λ place group is. done.kept.each place group (kept.kept.each place group is) };
      room = c.add_line.ensures.room;
    }
