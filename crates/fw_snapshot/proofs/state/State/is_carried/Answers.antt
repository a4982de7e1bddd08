use Rattle.std.proofs.Common.{◌∙◌, ap, nat_lt, sym}
use Rattle.fw_persistent.specs.Counts.{count_of}
use Rattle.fw_snapshot.specs.History.{rows_of}
use Rattle.fw_snapshot.specs.Judging.{carries}
use Rattle.fw_snapshot.specs.StateView.{state_entries}
use Rattle.fw_snapshot.specs.Uses.{posts_with}
use Rattle.fw_snapshot.proofs.WithdrawnFacts.{carried_in_use}
use Rattle.fw_snapshot.proofs.state.State.is_carried.Goals as goal

pub returns : goal.returns
returns c =
    let id = c.args.id.now in
    let es = state_entries c.self.inside in
    ap (λ n. nat_lt n c.count.result) (c.count-2.ensures ∙ c.self.invariant.withdrawn id)
    ∙ ap (nat_lt _) (c.count.ensures ∙ c.self.invariant.carried id)
    ∙ sym (carried_in_use id es)
    ∙ ap (λ h. carries id (rows_of h.entries)) c.self.view_is
