use Rattle.fw_query.proofs.reporting.report_alone.Goals as goal

pub returns-clause-fault : goal.returns-clause-fault
returns-clause-fault c = rw (c.in_ok-shown.ensures, c.state.ensures) at c.report_alone_on.ensures.fault
