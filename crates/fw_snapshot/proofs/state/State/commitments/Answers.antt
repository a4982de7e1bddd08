use Rattle.std.proofs.Common.{◌≡◌, ◌∙◌, ap, length, arith}
use Rattle.fw_snapshot.specs.History.{committed_of}
use Rattle.fw_snapshot.specs.StateView.{state_entries}
use Rattle.fw_snapshot.proofs.AddedFacts.{commitments_count}
use Rattle.fw_snapshot.proofs.Following.{kept_few_commitments}
use Rattle.fw_snapshot.proofs.state.State.commitments.Goals as goal

pub returns-clause-committed : goal.returns-clause-committed
returns-clause-committed c =
    let same : length c.commitments_in.result.now ≡ length (committed_of (state_entries c.self.inside)) = ap length c.commitments_in.ensures ∙ ap length c.self.invariant.commitments ∙ commitments_count (state_entries c.self.inside) in
    same ∙ ap (λ h. length (committed_of h.entries)) c.self.view_is

pub returns-clause-few : goal.returns-clause-few
returns-clause-few c =
    let few = kept_few_commitments c.self.inside c.self.invariant in
    let list = ap length c.commitments_in.ensures in
    omega arith
