use Rattle.std.proofs.Common.{refl}
use Rattle.fw_serve.specs.Contents.{ContentReads}
use Rattle.fw_serve.specs.ReplyText.{reply_text}
use Rattle.fw_serve.proofs.AnswerFacts.{IsRowCount-read}
use Rattle.fw_serve.proofs.content.read_content.Goals as goal

pub returns-in-Ok-clause-reads : goal.returns-in-Ok-clause-reads
unfolding ContentReads
returns-in-Ok-clause-reads g c = rw c.in-Post.is (c.in-Ok.rows, refl, rw c.in-Ok.is at c.rows_of.ensures)

pub returns-in-Ok-clause-sized : goal.returns-in-Ok-clause-sized
returns-in-Ok-clause-sized g c = IsRowCount-read _ _ c.in-Ok.rows (rw c.in-Ok.is at c.rows_of.ensures)

pub returns-in-Err-clause-reads : goal.returns-in-Err-clause-reads
unfolding ContentReads
returns-in-Err-clause-reads g c = rw c.in-Post.is (c.in-Err.fault, c.row_reply.ensures, rw c.in-Err.is at c.rows_of.ensures)

pub returns-in-Ok-read_commitment-clause-reads : goal.returns-in-Ok-read_commitment-clause-reads
unfolding ContentReads
returns-in-Ok-read_commitment-clause-reads g c = rw c.in-Commit.is (c.in-Ok-read_commitment.commitment, refl, rw c.in-Ok-read_commitment.is at c.read_commitment.ensures)

pub returns-in-Err-read_commitment-clause-reads : goal.returns-in-Err-read_commitment-clause-reads
unfolding ContentReads
returns-in-Err-read_commitment-clause-reads g c = rw c.in-Commit.is (c.in-Err-read_commitment.fault, c.commitment_reply.ensures, rw c.in-Err-read_commitment.is at c.read_commitment.ensures)

pub returns-in-Ok-read_policy-clause-reads : goal.returns-in-Ok-read_policy-clause-reads
unfolding ContentReads
returns-in-Ok-read_policy-clause-reads g c = rw c.in-Policy.is (c.in-Ok-read_policy.policy, refl, rw c.in-Ok-read_policy.is at c.read_policy.ensures)

pub returns-in-Err-read_policy-clause-reads : goal.returns-in-Err-read_policy-clause-reads
unfolding ContentReads
returns-in-Err-read_policy-clause-reads g c = rw c.in-Policy.is (c.in-Err-read_policy.fault, c.policy_reply.ensures, rw c.in-Err-read_policy.is at c.read_policy.ensures)

pub returns-in-Ok-read_purchase-clause-reads : goal.returns-in-Ok-read_purchase-clause-reads
unfolding ContentReads
returns-in-Ok-read_purchase-clause-reads g c = rw c.in-AddPurchase.is (c.in-Ok-read_purchase.added, refl, rw c.in-Ok-read_purchase.is at c.read_purchase.ensures)

pub returns-in-Err-read_purchase-clause-reads : goal.returns-in-Err-read_purchase-clause-reads
unfolding ContentReads
returns-in-Err-read_purchase-clause-reads g c =
    rw c.in-AddPurchase.is (c.in-Err-read_purchase.fault, c.commitment_reply-in-Err-read_purchase.ensures, rw c.in-Err-read_purchase.is at c.read_purchase.ensures)

pub returns-in-Some-clause-reads : goal.returns-in-Some-clause-reads
unfolding ContentReads
returns-in-Some-clause-reads g c = rw c.in-Withdraw.is (c.in-Some.target, refl, rw c.in-Some.is at c.sequence_number.ensures)

pub returns-in-None-clause-reads : goal.returns-in-None-clause-reads
unfolding ContentReads reply_text
returns-in-None-clause-reads g c = rw c.in-Withdraw.is (refl, rw c.in-None.is at c.sequence_number.ensures)
