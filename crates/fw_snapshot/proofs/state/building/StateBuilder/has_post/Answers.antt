use Rattle.std.proofs.Common.{◌∙◌, ap}
use Rattle.std.specs.Prelude.{is_some}
use Rattle.fw_snapshot.specs.BuilderView.{state_so_far}
use Rattle.fw_snapshot.specs.Judging.{has_post}
use Rattle.fw_snapshot.specs.Posts.{span_in}
use Rattle.fw_snapshot.specs.StateView.{state_entries}
use Rattle.fw_snapshot.proofs.NamedFacts.{has_post_is}
use Rattle.fw_snapshot.proofs.state.building.StateBuilder.has_post.Goals as goal

pub returns : goal.returns
returns c =
    let origin = c.args.origin.now in
    c.is_some.ensures
    ∙ ap is_some (c.span_of.ensures ∙ ap (λ spans. span_in spans c.args.seq) (c.self.invariant.state.origins origin))
    ∙ has_post_is (state_entries (state_so_far c.self.inside)) origin c.args.seq c.self.invariant.state.legal c.self.invariant.state.each
    ∙ ap (λ b. has_post b.history.entries origin c.args.seq) c.self.view_is
