use Rattle.std.proofs.Common.{◌∙◌, length, take, refl, ap, arith}
use Rattle.std.specs.List.{list_any}
use Rattle.std.proofs.lemmas.List.{length-take-le}
use Rattle.fw_snapshot.specs.Building.{Built, left_rows}
use Rattle.fw_snapshot.specs.BuilderView.{state_so_far}
use Rattle.fw_snapshot.specs.History.{committed_of, commitments_of, rows_of, rows_posted}
use Rattle.fw_snapshot.specs.Judging.{carries, command_conflict, is_registered, refuses}
use Rattle.fw_snapshot.specs.StateView.{state_entries}
use Rattle.fw_snapshot.proofs.AddedFacts.{commitments_count}
use Rattle.fw_snapshot.proofs.BuilderFacts.{taken_count}
use Rattle.fw_snapshot.proofs.BuildingFacts.{added_conflict, commit_conflict, post_conflict, withdrawn_conflict}
use Rattle.fw_snapshot.proofs.Following.{kept_few, kept_rows}
use Rattle.fw_snapshot.proofs.state.building.StateBuilder.conflict.Goals as goal

pub rows_conflict-requires : goal.rows_conflict-requires
rows_conflict-requires c =
    let few = kept_few (state_so_far c.self.inside) c.self.invariant.state in
    let count = taken_count c.self.inside c.self.invariant in
    omega (arith, few, count)

pub returns-in-Post : goal.returns-in-Post
returns-in-Post c =
    let b = c.args.self.now in
    let n = c.in-Post.rows in
    let own = rw c.in-Post.is at c.requires.own in
    let enough = rw c.in-Post.is at c.requires.enough in
    let count =
    taken_count c.self.inside c.self.invariant
    ∙ ap length (kept_rows (state_so_far c.self.inside) c.self.invariant.state)
    ∙ ap (λ (v : Built). length (rows_posted v.history.entries)) c.self.view_is in
    rw c.in-Post.is (c.rows_conflict.ensures ∙ post_conflict b.history.entries c.args.origin.now (take n (left_rows b)) c.self.inside.rows n c.args.own count (length-take-le n (left_rows b) enough) own)

pub returns-in-Commit : goal.returns-in-Commit
returns-in-Commit c =
    let es = c.args.self.now.history.entries in
    let is = c.is_registered.ensures.committed ∙ ap (λ id. is_registered id (committed_of es)) c.id.ensures.value in
    let in_use = c.is_carried.ensures ∙ ap (λ id. carries id (rows_of es)) c.id-in-Commit.ensures.value in
    let count = ap length c.commitments_in.ensures ∙ ap length c.self.invariant.state.commitments ∙ commitments_count (state_entries (state_so_far c.self.inside)) ∙ ap (λ (v : Built). length (committed_of v.history.entries)) c.self.view_is in
    rw c.in-Commit.is (c.commitment_conflict.ensures ∙ commit_conflict es c.args.origin.now c.in-Commit.commitment c.is_registered.result c.is_carried.result (length c.commitments_in.result.now) is in_use count)

pub returns-in-SetPolicy : goal.returns-in-SetPolicy
unfolding command_conflict
returns-in-SetPolicy c = rw c.in-SetPolicy.is refl

pub returns-in-Withdraw : goal.returns-in-Withdraw
returns-in-Withdraw c =
    let es = c.args.self.now.history.entries in
    rw c.in-Withdraw.is (c.withdrawal_conflict.ensures ∙ withdrawn_conflict es c.args.origin.now c.in-Withdraw.seq c.has_post.result c.is_withdrawn.result c.has_post.ensures c.is_withdrawn.ensures)

pub returns-in-AddPurchase : goal.returns-in-AddPurchase
returns-in-AddPurchase c =
    let es = c.args.self.now.history.entries in
    let a = c.in-AddPurchase.added in
    let is = c.is_registered-in-AddPurchase.ensures.with_all ∙ ap (λ id. is_registered id (commitments_of es)) c.id-in-AddPurchase.ensures.value in
    let list = c.commitments_in-in-AddPurchase.ensures ∙ c.self.invariant.state.commitments ∙ ap (λ (v : Built). commitments_of v.history.entries) c.self.view_is in
    let refused = c.is_refused.ensures ∙ ap (list_any (refuses a)) list in
    rw c.in-AddPurchase.is (c.purchase_conflict.ensures ∙ added_conflict es c.args.origin.now a c.is_registered-in-AddPurchase.result c.is_refused.result is refused)
