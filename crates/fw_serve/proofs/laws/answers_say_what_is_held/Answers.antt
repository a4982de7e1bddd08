use Rattle.fw_serve.proofs.RunFacts.{each_answered, told}
use Rattle.fw_serve.proofs.laws.answers_say_what_is_held.Goals as goal

pub returns-clause-each : goal.returns-clause-each
returns-clause-each c = each_answered

pub returns-clause-told : goal.returns-clause-told
returns-clause-told c = λ before after commands answers given. told before commands answers after given
