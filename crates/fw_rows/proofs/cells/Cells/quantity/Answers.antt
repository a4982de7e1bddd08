use Rattle.std.proofs.Common.{refl, inl}
use Rattle.fw_rules.specs.Table.{FirstBroken, NoneBroken}
use Rattle.fw_rows.specs.Rules.{quantity_rules}
use Rattle.fw_rows.proofs.cells.Cells.quantity.Goals as goal

pub returns-in-Some : goal.returns-in-Some
unfolding NoneBroken quantity_rules
returns-in-Some c =
    let reads = rw c.text.ensures at c.in-Some.ensures in ((λ bad. bad (c.in-Some.quantity, reads), tt), reads)

pub returns-in-None : goal.returns-in-None
unfolding FirstBroken quantity_rules
returns-in-None c = inl ((λ h. c.in-None.ensures h.0 (rw c.text.ensures h.1)), refl)
