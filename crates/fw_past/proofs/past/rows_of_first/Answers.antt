use Rattle.std.proofs.Common.{◌≡◌, ◌∙◌, ◌≤◌, ◌+◌, length, take, sym, ap, arith}
use Rattle.fw_snapshot.specs.Heads.{row_count}
use Rattle.fw_snapshot.specs.History.{rows_posted}
use Rattle.fw_past.proofs.ReplayFacts.{first_few, no_rows, rows_at}
use Rattle.fw_past.proofs.past.rows_of_first.Goals as goal
use Rattle.fw_past.proofs.past.rows_of_first.Goals.{After-row_count-rows}

pub loop-place-init : goal.loop-place-init
loop-place-init c = sym no_rows

-- the rows with those of the entry at the place
with_more : (c : After-row_count-rows) → c.loop-place.rows + c.row_count-rows.result ≡ length (rows_posted (take (c.loop-place.place + 1) c.args.state.now.entries))
with_more c =
    let within : c.loop-place.place + 1 ≤ length c.args.state.now.entries = omega (arith, c.loop-place-test.true, c.requires) in
    let brings : c.row_count-rows.result ≡ row_count c.head.result.now.content = c.row_count-rows.ensures ∙ ap row_count c.content.ensures in
    let more = rows_at c.args.state.now.entries c.loop-place.place c.head.result.now within c.head.ensures in
    omega (arith, more, brings, c.loop-place.invariant)

pub overflow_add-rows : goal.overflow_add-rows
overflow_add-rows c =
    let at = (goal.at.overflow_add-rows c).After-row_count-rows in
    let few = first_few c.args.state.now.entries (c.loop-place.place + 1) in
    omega (arith, with_more at, few, c.rows_posted-all.ensures.count, c.rows_posted-all.ensures.few)

pub loop-place-preserved : goal.loop-place-preserved
loop-place-preserved c = with_more ((goal.at.loop-place-preserved c).After-row_count-rows)
