use Rattle.fw_recover.proofs.Appending.{stands_either}
use Rattle.fw_recover.proofs.laws.an_append_adds_a_group_or_nothing.Goals as goal

pub returns : goal.returns
returns c = λ h old standing more is_group legal image other_stays before tells. stands_either h old standing image other_stays before more is_group legal tells
