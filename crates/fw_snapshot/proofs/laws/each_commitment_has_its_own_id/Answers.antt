use Rattle.fw_snapshot.proofs.IdFacts.{own_id, alone}
use Rattle.fw_snapshot.proofs.laws.each_commitment_has_its_own_id.Goals as goal

pub returns-clause-once : goal.returns-clause-once
returns-clause-once c = own_id

pub returns-clause-alone : goal.returns-clause-alone
returns-clause-alone c = alone
