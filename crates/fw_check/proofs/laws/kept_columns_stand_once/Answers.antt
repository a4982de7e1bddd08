use Rattle.fw_check.proofs.HeaderLaw.{all_once}
use Rattle.fw_check.proofs.laws.kept_columns_stand_once.Goals as goal

pub returns : goal.returns
returns c = all_once
