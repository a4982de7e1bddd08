use Rattle.std.proofs.Common.{◌∙◌, ap, nat_lt, sym}
use Rattle.fw_snapshot.specs.BuilderView.{state_so_far}
use Rattle.fw_snapshot.specs.History.{committed_of}
use Rattle.fw_snapshot.specs.Judging.{is_registered}
use Rattle.fw_snapshot.specs.StateView.{state_entries}
use Rattle.fw_snapshot.proofs.AddedFacts.{registered_same}
use Rattle.fw_snapshot.proofs.EntryFacts.{commitments_in_use}
use Rattle.fw_snapshot.proofs.state.building.StateBuilder.is_registered.Goals as goal

pub returns-clause-committed : goal.returns-clause-committed
returns-clause-committed c =
    let id = c.args.id.now in
    ap (nat_lt 0) (c.count.ensures ∙ c.self.invariant.state.registered id)
    ∙ commitments_in_use id (committed_of (state_entries (state_so_far c.self.inside)))
    ∙ ap (λ b. is_registered id (committed_of b.history.entries)) c.self.view_is

pub returns-clause-with_all : goal.returns-clause-with_all
returns-clause-with_all c =
    let id = c.args.id.now in
    ap (nat_lt 0) (c.count.ensures ∙ c.self.invariant.state.registered id)
    ∙ commitments_in_use id (committed_of (state_entries (state_so_far c.self.inside)))
    ∙ ap (λ b. is_registered id (committed_of b.history.entries)) c.self.view_is
    ∙ sym (registered_same c.args.self.now.history.entries id)
