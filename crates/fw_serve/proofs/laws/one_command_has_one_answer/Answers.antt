use Rattle.fw_serve.proofs.OneAnswerFacts.{command_one, entry_one, left_out, script_one}
use Rattle.fw_serve.proofs.RunFacts.{hindered_leaves}
use Rattle.fw_serve.proofs.laws.one_command_has_one_answer.Goals as goal

pub returns-clause-command : goal.returns-clause-command
returns-clause-command c = command_one

pub returns-clause-script : goal.returns-clause-script
returns-clause-script c = script_one

pub returns-clause-hindered : goal.returns-clause-hindered
returns-clause-hindered c = λ before after command text answered out. hindered_leaves before command text after answered out

pub returns-clause-left_out : goal.returns-clause-left_out
returns-clause-left_out c = left_out

pub returns-clause-entry : goal.returns-clause-entry
returns-clause-entry c = entry_one
