use Rattle.std.proofs.Common.{length, ap, arith}
use Rattle.fw_group.proofs.Items.{length_joined}
use Rattle.fw_group.proofs.hand.Hand.len.Goals as goal

pub returns : goal.returns
returns c = omega (arith, c.len.ensures, length_joined c.self.inside.importers.items c.self.inside.entries.items c.self.invariant, ap length c.self.view_is)
