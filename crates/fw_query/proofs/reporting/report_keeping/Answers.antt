use Rattle.fw_query.proofs.reporting.report_keeping.Goals as goal

pub returns-clause-fault : goal.returns-clause-fault
returns-clause-fault g c = rw (c.in_ok-shown.ensures, c.state.ensures) at c.report_on.ensures.fault
