use Rattle.fw_serve.proofs.WholeFacts.{command_whole, moment_whole, script_whole}
use Rattle.fw_serve.proofs.laws.a_warehouse_stays_whole.Goals as goal

pub returns-clause-command : goal.returns-clause-command
returns-clause-command c = command_whole

pub returns-clause-script : goal.returns-clause-script
returns-clause-script c = λ before after commands answers whole given. script_whole commands before after answers whole given

pub returns-clause-moment : goal.returns-clause-moment
returns-clause-moment c = λ before after commands answers place command answer whole given asked answered. moment_whole commands before after answers place command answer whole given asked answered
