use Rattle.fw_finops.proofs.BesideFacts.{lines_say}
use Rattle.fw_finops.proofs.laws.lines_beside_a_commitment_say_what_rows_could_have_used.Goals as goal

pub returns : goal.returns
returns c = lines_say
