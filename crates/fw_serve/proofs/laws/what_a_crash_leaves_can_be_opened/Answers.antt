use Rattle.fw_serve.proofs.StopFacts.{opens_command, opens_either, opens_first, opens_script}
use Rattle.fw_serve.proofs.laws.what_a_crash_leaves_can_be_opened.Goals as goal

pub returns-clause-group : goal.returns-clause-group
returns-clause-group c = opens_either

pub returns-clause-first : goal.returns-clause-first
returns-clause-first c = opens_first

pub returns-clause-script : goal.returns-clause-script
returns-clause-script c = opens_script

pub returns-clause-after_script : goal.returns-clause-after_script
returns-clause-after_script c = λ before after commands answers more image flies left. opens_either after.history more image left

pub returns-clause-command : goal.returns-clause-command
returns-clause-command c = opens_command
