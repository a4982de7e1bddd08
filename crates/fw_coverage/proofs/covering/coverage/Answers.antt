use Rattle.std.proofs.Common.{◌≡◌, ◌∙◌, ◌+◌, ◌-◌, ap, arith, sym}
use Rattle.fw_snapshot.specs.History.{History, commitments_of}
use Rattle.fw_coverage.proofs.covering.coverage.Goals as goal

pub coverage_on-requires-clause-same : goal.coverage_on-requires-clause-same
coverage_on-requires-clause-same c =
    c.commitment_list-commitments.ensures ∙ sym (ap (λ (h : History). commitments_of h.entries) c.in_ok-shown.ensures)

pub returns-in-Ok-clause-coverage : goal.returns-in-Ok-clause-coverage
returns-in-Ok-clause-coverage c =
    let end : c.args.from + (c.args.to - c.args.from) ≡ c.args.to = omega arith in
    rw (end, c.in_ok-shown.ensures, c.state-state.ensures) at c.in-Ok.ensures
