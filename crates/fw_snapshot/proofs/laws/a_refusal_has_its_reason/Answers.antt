use Rattle.fw_snapshot.proofs.RuleFacts.{refused_next, refused_full, refused_double, refused_in_use, refused_own, refused_too_many, refused_no_post, refused_withdrawn, refused_no_such, refused_limit}
use Rattle.fw_snapshot.proofs.laws.a_refusal_has_its_reason.Goals as goal

pub returns-clause-next : goal.returns-clause-next
returns-clause-next c = refused_next

pub returns-clause-full : goal.returns-clause-full
returns-clause-full c = refused_full

pub returns-clause-double_id : goal.returns-clause-double_id
returns-clause-double_id c = refused_double

pub returns-clause-id_in_use : goal.returns-clause-id_in_use
returns-clause-id_in_use c = refused_in_use

pub returns-clause-own_commitment : goal.returns-clause-own_commitment
returns-clause-own_commitment c = refused_own

pub returns-clause-too_many : goal.returns-clause-too_many
returns-clause-too_many c = refused_too_many

pub returns-clause-no_such_post : goal.returns-clause-no_such_post
returns-clause-no_such_post c = refused_no_post

pub returns-clause-withdrawn : goal.returns-clause-withdrawn
returns-clause-withdrawn c = refused_withdrawn

pub returns-clause-no_such_commitment : goal.returns-clause-no_such_commitment
returns-clause-no_such_commitment c = refused_no_such

pub returns-clause-purchase_limit : goal.returns-clause-purchase_limit
returns-clause-purchase_limit c = refused_limit
