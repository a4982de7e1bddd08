use Rattle.std.proofs.Common.{refl}
use Rattle.fw_serve.specs.Contents.{ContentReads}
use Rattle.fw_serve.proofs.AnswerFacts.{IsRowCount-read}
use Rattle.fw_dump.proofs.sending.read_content.Goals as goal

pub returns-in-Ok-clause-reads : goal.returns-in-Ok-clause-reads
unfolding ContentReads
returns-in-Ok-clause-reads c = rw c.in-Post.is (c.in-Ok.rows, refl, rw c.in-Ok.is at c.read_columns_after.ensures)

pub returns-in-Ok-clause-sized : goal.returns-in-Ok-clause-sized
returns-in-Ok-clause-sized c = IsRowCount-read _ _ c.in-Ok.rows (rw c.in-Ok.is at c.read_columns_after.ensures)

pub returns-in-Ok-read_commitment-clause-reads : goal.returns-in-Ok-read_commitment-clause-reads
unfolding ContentReads
returns-in-Ok-read_commitment-clause-reads c = rw c.in-Commit.is (c.in-Ok-read_commitment.commitment, refl, rw c.in-Ok-read_commitment.is at c.read_commitment.ensures)

pub returns-in-Ok-read_policy-clause-reads : goal.returns-in-Ok-read_policy-clause-reads
unfolding ContentReads
returns-in-Ok-read_policy-clause-reads c = rw c.in-Policy.is (c.in-Ok-read_policy.policy, refl, rw c.in-Ok-read_policy.is at c.read_policy.ensures)

pub returns-in-Ok-read_purchase-clause-reads : goal.returns-in-Ok-read_purchase-clause-reads
unfolding ContentReads
returns-in-Ok-read_purchase-clause-reads c = rw c.in-AddPurchase.is (c.in-Ok-read_purchase.added, refl, rw c.in-Ok-read_purchase.is at c.read_purchase.ensures)

pub returns-in-Some-clause-reads : goal.returns-in-Some-clause-reads
unfolding ContentReads
returns-in-Some-clause-reads c = rw c.in-Withdraw.is (c.in-Some.target, refl, rw c.in-Some.is at c.sequence_number.ensures)
