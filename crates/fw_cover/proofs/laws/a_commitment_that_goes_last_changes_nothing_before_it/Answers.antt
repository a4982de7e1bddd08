use Rattle.fw_cover.proofs.Later.{cover_push}
use Rattle.fw_cover.proofs.laws.a_commitment_that_goes_last_changes_nothing_before_it.Goals as goal

pub returns : goal.returns
returns c = cover_push
