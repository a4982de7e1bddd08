use Rattle.fw_check.proofs.report.summary_text.Goals as goal

pub returns : goal.returns
returns c = rw (c.in_ok-records.ensures, c.in_ok-faults.ensures, c.in_ok-repeated.ensures) at c.format.ensures.ok
