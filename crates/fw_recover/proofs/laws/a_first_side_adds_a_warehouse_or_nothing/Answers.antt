use Rattle.fw_recover.proofs.Standing.{stands_or_none}
use Rattle.fw_recover.proofs.laws.a_first_side_adds_a_warehouse_or_nothing.Goals as goal

pub returns : goal.returns
returns c = λ h old none form body fits spells of_form image same making. stands_or_none h old none form body fits spells of_form image same making
