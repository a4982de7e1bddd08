use Rattle.std.proofs.Common.{◌∙◌, ap}
use Rattle.std.specs.Prelude.{is_some}
use Rattle.fw_snapshot.specs.Judging.{has_post}
use Rattle.fw_snapshot.specs.Posts.{span_in}
use Rattle.fw_snapshot.specs.StateView.{state_entries}
use Rattle.fw_snapshot.proofs.NamedFacts.{has_post_is}
use Rattle.fw_snapshot.proofs.state.State.has_post.Goals as goal

pub returns : goal.returns
returns c =
    let origin = c.args.origin.now in
    c.is_some.ensures ∙ ap is_some (c.span_of.ensures ∙ ap (λ spans. span_in spans c.args.seq) (c.self.invariant.origins origin))
    ∙ has_post_is (state_entries c.self.inside) origin c.args.seq c.self.invariant.legal c.self.invariant.each
    ∙ ap (λ h. has_post h.entries origin c.args.seq) c.self.view_is
