use Rattle.fw_commitment.proofs.names.has_only_known.Goals as goal

pub returns-in-Usage : goal.returns-in-Usage
returns-in-Usage c = rw c.in-Usage.is c.has_only.ensures

pub returns-in-Spend : goal.returns-in-Spend
returns-in-Spend c = rw c.in-Spend.is c.has_only-in-Spend.ensures
