use Rattle.std.proofs.Common.{◌≡◌, ◌∙◌, ap, sym}
use Rattle.fw_snapshot.specs.History.{History, rows_of}
use Rattle.fw_sums.specs.Hours.{all_rows, lent}
use Rattle.fw_query.proofs.reporting.report_alone_on.Goals as goal

pub report_of-requires-clause-totals : goal.report_of-requires-clause-totals
report_of-requires-clause-totals c =
    let rows : all_rows (lent c.as_slice.result.now) ≡ rows_of c.state-state.result.now.entries =
    ap all_rows (ap lent c.as_slice.ensures.value) ∙ c.in_ok-segments.ensures ∙ ap (λ (h : History). rows_of h.entries) (sym c.state-state.ensures) in
    rw (rows, c.commitment_list.ensures) at c.in_ok-totals.ensures.totals
