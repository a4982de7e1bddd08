use Rattle.std.proofs.Common.{ap, sym, ◌∙◌}
use Rattle.fw_group.specs.Items.{entries_of}
use Rattle.fw_group.proofs.Items.{entries_joined}
use Rattle.fw_group.proofs.hand.Hand.entries.Goals as goal

pub returns : goal.returns
returns c = c.deref.ensures.value ∙ sym (entries_joined c.self.inside.importers.items c.self.inside.entries.items c.self.invariant) ∙ ap entries_of c.self.view_is
