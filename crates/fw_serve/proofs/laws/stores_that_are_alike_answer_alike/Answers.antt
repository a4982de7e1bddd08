use Rattle.fw_serve.proofs.AlikeFacts.{checkpoints_alike, checkpoints_made, command_alike, script_alike}
use Rattle.fw_serve.proofs.laws.stores_that_are_alike_answer_alike.Goals as goal

pub returns-clause-command : goal.returns-clause-command
returns-clause-command c = command_alike

pub returns-clause-checkpoint : goal.returns-clause-checkpoint
returns-clause-checkpoint c = checkpoints_alike

pub returns-clause-made : goal.returns-clause-made
returns-clause-made c = checkpoints_made

pub returns-clause-script : goal.returns-clause-script
returns-clause-script c =
    λ before other after after_other commands answers second like none given there well fine. script_alike commands before other after after_other answers second like none given there well fine
