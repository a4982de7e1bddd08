use Rattle.std.proofs.Common.{◌≡◌, ◌∙◌, ap, sym}
use Rattle.fw_snapshot.specs.History.{History, rows_of}
use Rattle.fw_sums.specs.Hours.{all_rows, lent}
use Rattle.fw_query.proofs.reporting.report_on.Goals as goal

pub totals_keeping-requires-clause-kept : goal.totals_keeping-requires-clause-kept
totals_keeping-requires-clause-kept g c =
    let rows : all_rows (lent c.as_slice.result.now) ≡ rows_of c.args.shown.now.entries =
    ap all_rows (ap lent c.as_slice.ensures.value) ∙ c.in_ok-segments.ensures in
    λ lifetimes outlives. rw (rows, c.commitment_list.ensures, c.state-state.ensures) c.requires.kept

pub returns-in_err-totals-clause-kept : goal.returns-in_err-totals-clause-kept
returns-in_err-totals-clause-kept g c =
    let rows : all_rows (lent c.as_slice.result.now) ≡ rows_of c.args.shown.now.entries =
    ap all_rows (ap lent c.as_slice.ensures.value) ∙ c.in_ok-segments.ensures in
    rw (rows, c.commitment_list.ensures, c.state-state.ensures) at c.totals_keeping.ensures.kept

pub report_of-requires-clause-totals : goal.report_of-requires-clause-totals
report_of-requires-clause-totals g c =
    let rows : all_rows (lent c.as_slice.result.now) ≡ rows_of c.state-state.result.now.entries =
    ap all_rows (ap lent c.as_slice.ensures.value) ∙ c.in_ok-segments.ensures ∙ ap (λ (h : History). rows_of h.entries) (sym c.state-state.ensures) in
    rw (rows, c.commitment_list.ensures) at c.in_ok-totals.ensures.totals

pub returns-clause-kept : goal.returns-clause-kept
returns-clause-kept g c =
    let rows : all_rows (lent c.as_slice.result.now) ≡ rows_of c.args.shown.now.entries =
    ap all_rows (ap lent c.as_slice.ensures.value) ∙ c.in_ok-segments.ensures in
    rw (rows, c.commitment_list.ensures, c.state-state.ensures) at c.in_ok-totals.ensures.kept
