use Rattle.fw_snapshot.proofs.IdFacts.{other_ids}
use Rattle.fw_snapshot.proofs.laws.no_row_has_the_id_of_a_commitment.Goals as goal

pub returns : goal.returns
returns c = other_ids
