use Rattle.std.proofs.Common.{ap, sym, ◌∙◌}
use Rattle.fw_group.specs.Items.{importers_of}
use Rattle.fw_group.proofs.Items.{importers_joined}
use Rattle.fw_group.proofs.hand.Hand.importers.Goals as goal

pub returns : goal.returns
returns c = c.deref.ensures.value ∙ sym (importers_joined c.self.inside.importers.items c.self.inside.entries.items c.self.invariant) ∙ ap importers_of c.self.view_is
