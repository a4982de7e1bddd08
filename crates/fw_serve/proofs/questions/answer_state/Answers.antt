use Rattle.std.proofs.Common.{refl}
use Rattle.fw_serve.specs.Replies.{state_line}
use Rattle.fw_serve.specs.ReplyText.{reply_text}
use Rattle.fw_serve.proofs.AnswerFacts.{policy_counted}
use Rattle.fw_serve.proofs.questions.answer_state.Goals as goal

pub returns : goal.returns
unfolding reply_text state_line
returns c =
    rw (c.entries.ensures.count, c.rows.ensures.count, c.commitments.ensures.count, c.is_some.ensures, policy_counted c.policy.result, c.policy.ensures, c.state-state.ensures) refl
