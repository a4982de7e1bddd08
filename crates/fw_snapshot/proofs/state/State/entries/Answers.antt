use Rattle.std.proofs.Common.{◌∙◌, ap, length}
use Rattle.fw_snapshot.proofs.Following.{kept_length}
use Rattle.fw_snapshot.proofs.state.State.entries.Goals as goal

pub returns-clause-count : goal.returns-clause-count
returns-clause-count c = c.len.ensures ∙ kept_length c.self.inside c.self.invariant ∙ ap (λ h. length h.entries) c.self.view_is
