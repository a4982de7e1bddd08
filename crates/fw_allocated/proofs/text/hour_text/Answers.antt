use Rattle.std.proofs.Common.{rules}
use Rattle.std.proofs.lemmas.Result.{IfOk-weaker}
use Rattle.fw_amortise.specs.Lines.{rows_in}
use Rattle.fw_snapshot.specs.History.{commitments_of, rows_of}
use Rattle.fw_allocated.specs.LineRows.{AreExportsAt}
use Rattle.fw_allocated.proofs.TrueFacts.{hour_of_true_rows}
use Rattle.fw_allocated.proofs.text.hour_text.Goals as goal

pub returns-clause-rows : goal.returns-clause-rows
returns-clause-rows c =
    let cs = commitments_of c.args.shown.now.entries in
    let rows = rows_of c.args.shown.now.entries in
    let are : AreExportsAt cs rows c.args.hour c.in_ok-rows.rows.items = search rules in
    IfOk-weaker c.rows_text.result _ _ (λ text own. (c.in_ok-rows.rows.items, hour_of_true_rows cs (rows_in c.args.hour rows) c.args.hour c.in_ok-rows.rows.items are, own))
    (rw c.as_slice-2.ensures.value at c.rows_text.ensures)
