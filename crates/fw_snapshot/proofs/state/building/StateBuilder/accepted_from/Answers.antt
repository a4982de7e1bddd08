use Rattle.std.proofs.Common.{◌∙◌, ap, length}
use Rattle.fw_snapshot.specs.BuilderView.{state_so_far}
use Rattle.fw_snapshot.specs.History.{entries_from}
use Rattle.fw_snapshot.specs.StateView.{state_entries}
use Rattle.fw_snapshot.proofs.SpanFacts.{spans_count}
use Rattle.fw_snapshot.proofs.state.building.StateBuilder.accepted_from.Goals as goal

pub returns : goal.returns
returns c =
    let origin = c.args.origin.now in
    c.entries_from.ensures
    ∙ ap length (c.self.invariant.state.origins origin)
    ∙ spans_count 0 origin (state_entries (state_so_far c.self.inside))
    ∙ ap (λ b. entries_from origin b.history.entries) c.self.view_is
