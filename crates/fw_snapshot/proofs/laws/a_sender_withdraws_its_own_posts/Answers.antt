use Rattle.fw_snapshot.proofs.CountingFacts.{rows_withdrawn}
use Rattle.fw_snapshot.proofs.OnePostFacts.{one_post, no_more_withdrawn, others_behind}
use Rattle.fw_snapshot.proofs.laws.a_sender_withdraws_its_own_posts.Goals as goal

pub returns-clause-rows : goal.returns-clause-rows
returns-clause-rows c = one_post

pub returns-clause-withdrawal : goal.returns-clause-withdrawal
returns-clause-withdrawal c = rows_withdrawn

pub returns-clause-no_more : goal.returns-clause-no_more
returns-clause-no_more c = no_more_withdrawn

pub returns-clause-others : goal.returns-clause-others
returns-clause-others c = others_behind
