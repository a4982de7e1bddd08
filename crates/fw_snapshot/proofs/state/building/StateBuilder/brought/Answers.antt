use Rattle.std.proofs.Common.{◌≡◌, ◌∙◌, ℕ, List, length, take, drop, IfOk, ap, subst, arith}
use Rattle.std.specs.List.{list_any}
use Rattle.std.proofs.lemmas.Result.{IfOk-weaker}
use Rattle.fw_bytes.specs.Spelling.{listed}
use Rattle.fw_charge.specs.Charge.{Charge}
use Rattle.fw_charge.specs.Spelling.{row}
use Rattle.fw_entry.specs.Spelling.{brought}
use Rattle.fw_persistent.specs.Counts.{count_of}
use Rattle.fw_terms.specs.Spelling.{policy}
use Rattle.fw_snapshot.specs.Building.{Built, has_counted_id, left_rows, rows_before}
use Rattle.fw_posted.specs.Rows.{segment_rows}
use Rattle.fw_snapshot.specs.History.{committed_of}
use Rattle.fw_snapshot.specs.Judging.{carries, carries_any}
use Rattle.fw_snapshot.specs.Uses.{commitments_with}
use Rattle.fw_snapshot.proofs.BuildingFacts.{counted_any}
use Rattle.fw_snapshot.proofs.state.building.StateBuilder.brought.Goals as goal
use Rattle.fw_snapshot.proofs.state.building.StateBuilder.brought.Goals.{After-self}

-- the rows behind the place are those that are left
left_is : (c : After-self) (segments : List (List Charge)) → segments ≡ c.self.inside.posted.segments → drop (rows_before segments c.self.inside.place) (segment_rows segments) ≡ left_rows c.args.self.now
left_is c segments same =
    ap (λ (s : List (List Charge)). drop (rows_before s c.self.inside.place) (segment_rows s)) same
    ∙ ap (λ n. drop n (segment_rows c.self.inside.posted.segments)) c.self.invariant.place
    ∙ ap (λ (b : Built). left_rows b) c.self.view_is

-- the ids that are counted are those of the commitments
counts_are : (c : After-self) (id : List ℕ) → count_of id c.self.inside.parts.registered ≡ commitments_with id (committed_of c.args.self.now.history.entries)
counts_are c id = c.self.invariant.state.registered id ∙ ap (λ (b : Built). commitments_with id (committed_of b.history.entries)) c.self.view_is

pub returns-in-Post-clause-len : goal.returns-in-Post-clause-len
unfolding brought
returns-in-Post-clause-len c =
    let at = (goal.at.returns-in-Post-clause-len c).After-self in
    rw c.in-Post.is (subst (λ (rows : List Charge). IfOk c.posted.result (λ b. b.len ≡ length (listed row (take c.in-Post.rows rows)))) (left_is at c.segments.result.now c.segments.ensures.segments) c.posted.ensures.len)

pub returns-in-Post-clause-own : goal.returns-in-Post-clause-own
returns-in-Post-clause-own c =
    let at = (goal.at.returns-in-Post-clause-own c).After-self in
    let counts = c.self.inside.parts.registered in
    rw c.in-Post.is (IfOk-weaker c.posted.result _ _ (λ b own. own ∙ counted_any counts (committed_of c.args.self.now.history.entries) (counts_are at) (take c.in-Post.rows (left_rows c.args.self.now)))
    (subst (λ (rows : List Charge). IfOk c.posted.result (λ b. b.own ≡ list_any (has_counted_id counts) (take c.in-Post.rows rows))) (left_is at c.segments.result.now c.segments.ensures.segments) c.posted.ensures.own))

pub returns-in-Commit-clause-len : goal.returns-in-Commit-clause-len
unfolding brought
returns-in-Commit-clause-len c = rw c.in-Commit.is (IfOk-weaker c.without_rows.result _ _ (λ b is. is ∙ c.commitment_len.ensures.value) c.without_rows.ensures.len)

pub returns-in-Commit-clause-own : goal.returns-in-Commit-clause-own
unfolding carries_any
returns-in-Commit-clause-own c = rw c.in-Commit.is c.without_rows.ensures.own

pub returns-in-Commit-clause-carried : goal.returns-in-Commit-clause-carried
unfolding carries
returns-in-Commit-clause-carried c = rw c.in-Commit.is (IfOk-weaker c.without_rows.result _ _ (λ b is id. is id ∙ omega arith) c.without_rows.ensures.carried)

pub returns-in-SetPolicy-clause-len : goal.returns-in-SetPolicy-clause-len
unfolding brought
returns-in-SetPolicy-clause-len c = rw c.in-SetPolicy.is (IfOk-weaker c.without_rows-in-SetPolicy.result _ _ (λ b is. is ∙ c.policy_len.ensures.value ∙ ap (λ p. length (policy p)) c.deref-in-SetPolicy.ensures) c.without_rows-in-SetPolicy.ensures.len)

pub returns-in-SetPolicy-clause-own : goal.returns-in-SetPolicy-clause-own
unfolding carries_any
returns-in-SetPolicy-clause-own c = rw c.in-SetPolicy.is c.without_rows-in-SetPolicy.ensures.own

pub returns-in-SetPolicy-clause-carried : goal.returns-in-SetPolicy-clause-carried
unfolding carries
returns-in-SetPolicy-clause-carried c = rw c.in-SetPolicy.is (IfOk-weaker c.without_rows-in-SetPolicy.result _ _ (λ b is id. is id ∙ omega arith) c.without_rows-in-SetPolicy.ensures.carried)

pub returns-in-Withdraw-clause-len : goal.returns-in-Withdraw-clause-len
returns-in-Withdraw-clause-len c = rw c.in-Withdraw.is (IfOk-weaker c.without_rows-in-Withdraw.result _ _ (λ b is. is ∙ c.withdrawal_len.ensures.len) c.without_rows-in-Withdraw.ensures.len)

pub returns-in-Withdraw-clause-valid : goal.returns-in-Withdraw-clause-valid
returns-in-Withdraw-clause-valid c = rw c.in-Withdraw.is (IfOk-weaker c.without_rows-in-Withdraw.result _ _ (λ b is. c.withdrawal_len.ensures.valid) c.without_rows-in-Withdraw.ensures.len)

pub returns-in-Withdraw-clause-own : goal.returns-in-Withdraw-clause-own
unfolding carries_any
returns-in-Withdraw-clause-own c = rw c.in-Withdraw.is c.without_rows-in-Withdraw.ensures.own

pub returns-in-Withdraw-clause-carried : goal.returns-in-Withdraw-clause-carried
unfolding carries
returns-in-Withdraw-clause-carried c = rw c.in-Withdraw.is (IfOk-weaker c.without_rows-in-Withdraw.result _ _ (λ b is id. is id ∙ omega arith) c.without_rows-in-Withdraw.ensures.carried)

pub returns-in-AddPurchase-clause-len : goal.returns-in-AddPurchase-clause-len
unfolding brought
returns-in-AddPurchase-clause-len c = rw c.in-AddPurchase.is (IfOk-weaker c.without_rows-in-AddPurchase.result _ _ (λ b is. is ∙ c.added_len.ensures.value) c.without_rows-in-AddPurchase.ensures.len)

pub returns-in-AddPurchase-clause-own : goal.returns-in-AddPurchase-clause-own
unfolding carries_any
returns-in-AddPurchase-clause-own c = rw c.in-AddPurchase.is c.without_rows-in-AddPurchase.ensures.own

pub returns-in-AddPurchase-clause-carried : goal.returns-in-AddPurchase-clause-carried
unfolding carries
returns-in-AddPurchase-clause-carried c = rw c.in-AddPurchase.is (IfOk-weaker c.without_rows-in-AddPurchase.result _ _ (λ b is id. is id ∙ omega arith) c.without_rows-in-AddPurchase.ensures.carried)
