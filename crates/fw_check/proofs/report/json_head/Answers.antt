use Rattle.fw_check.proofs.report.json_head.Goals as goal

pub returns : goal.returns
returns c = rw c.in_ok-repeated.ensures at c.format.ensures.ok
