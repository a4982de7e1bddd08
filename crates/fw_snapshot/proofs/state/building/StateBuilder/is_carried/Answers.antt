use Rattle.std.proofs.Common.{◌∙◌, ap, nat_lt, sym}
use Rattle.fw_snapshot.specs.BuilderView.{state_so_far}
use Rattle.fw_snapshot.specs.History.{rows_of}
use Rattle.fw_snapshot.specs.Judging.{carries}
use Rattle.fw_snapshot.specs.StateView.{state_entries}
use Rattle.fw_snapshot.proofs.WithdrawnFacts.{carried_in_use}
use Rattle.fw_snapshot.proofs.state.building.StateBuilder.is_carried.Goals as goal

pub returns : goal.returns
returns c =
    let id = c.args.id.now in
    ap (λ n. nat_lt n c.count.result) (c.count-2.ensures ∙ c.self.invariant.state.withdrawn id)
    ∙ ap (nat_lt _) (c.count.ensures ∙ c.self.invariant.state.carried id)
    ∙ sym (carried_in_use id (state_entries (state_so_far c.self.inside)))
    ∙ ap (λ b. carries id (rows_of b.history.entries)) c.self.view_is
