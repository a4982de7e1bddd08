use Rattle.std.proofs.Common.{◌∙◌, ap, map}
use Rattle.fw_snapshot.specs.Heads.{head_of}
use Rattle.fw_snapshot.proofs.Following.{kept_heads}
use Rattle.fw_snapshot.proofs.state.State.heads.Goals as goal

pub returns : goal.returns
returns c = kept_heads c.self.inside c.self.invariant ∙ ap (λ h. map head_of h.entries) c.self.view_is
