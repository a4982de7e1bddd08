use Rattle.fw_cover.proofs.Grouping.{cover_grouped}
use Rattle.fw_cover.proofs.laws.takes_stand_by_commitment.Goals as goal

pub returns : goal.returns
returns c = cover_grouped
