use Rattle.fw_script.proofs.CommandsLaws.{CommandsOf-one}
use Rattle.fw_script.proofs.laws.commands_are_one.Goals as goal

pub returns : goal.returns
returns c = CommandsOf-one c.args.text.now
