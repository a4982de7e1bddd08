use Rattle.fw_recover.proofs.Standing.{stands_while}
use Rattle.fw_recover.proofs.laws.making_a_side_keeps_the_warehouse.Goals as goal

pub returns : goal.returns
returns c = λ h old standing form generation body newer fits body_fits spells of_form image same making.
    stands_while h old standing form generation newer fits body body_fits spells of_form image same making
