use Rattle.std.proofs.Common.{◌≡◌, ◌∙◌, ap, sym}
use Rattle.fw_snapshot.specs.History.{History, commitments_of, rows_of}
use Rattle.fw_sums.specs.Hours.{all_rows, lent}
use Rattle.fw_coverage.proofs.TallyFacts.{rows_apart}
use Rattle.fw_coverage.proofs.covering.coverage_on.Goals as goal

pub coverage_of-requires-clause-same : goal.coverage_of-requires-clause-same
coverage_of-requires-clause-same c =
    c.requires.same ∙ sym (c.commitment_list.ensures ∙ ap (λ (h : History). commitments_of h.entries) c.state-2.ensures)

pub coverage_of-requires-clause-apart : goal.coverage_of-requires-clause-apart
coverage_of-requires-clause-apart c =
    let rows : all_rows (lent c.as_slice.result.now) ≡ rows_of c.args.shown.now.entries =
    ap all_rows (ap lent c.as_slice.ensures.value) ∙ c.in_ok-segments.ensures in
    rw (rows, c.commitment_list.ensures, c.state-2.ensures) (rw c.state.ensures at (rows_apart c.state.result.now.entries c.entries-entries.ensures.valid c.entries-entries.ensures.each))

pub returns : goal.returns
returns c =
    let rows : all_rows (lent c.as_slice.result.now) ≡ rows_of c.args.shown.now.entries =
    ap all_rows (ap lent c.as_slice.ensures.value) ∙ c.in_ok-segments.ensures in
    rw (rows, c.commitment_list.ensures, c.state-2.ensures) at c.coverage_of.ensures
