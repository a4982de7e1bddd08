use Rattle.fw_query.proofs.ExistFacts.{lines_exist}
use Rattle.fw_query.proofs.laws.there_are_lines.Goals as goal

pub returns : goal.returns
returns c = lines_exist
