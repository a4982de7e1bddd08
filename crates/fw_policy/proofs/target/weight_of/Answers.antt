use Rattle.std.proofs.Common.{rules}
use Rattle.std.proofs.lemmas.Int.{to_z-of_z}
use Rattle.std.specs.Int.{w64}
use Rattle.fw_policy.proofs.FieldFacts.{large_number, no_natural}
use Rattle.fw_policy.proofs.target.weight_of.Goals as goal

pub returns-in_default : goal.returns-in_default
returns-in_default c = let e = rw (to_z-of_z w64 c.args.number (search rules)) at c.in-Ok.ensures in large_number c.args.number c.in-Ok.weight e.1 c.if-weight-le-MOST_WEIGHT.false

pub returns-in_default-2 : goal.returns-in_default-2
returns-in_default-2 c = no_natural c.args.number (rw (to_z-of_z w64 c.args.number (search rules)) at c.in_default.ensures)
