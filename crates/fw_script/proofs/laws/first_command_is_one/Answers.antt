use Rattle.fw_script.proofs.CommandsLaws.{FirstCommand-one}
use Rattle.fw_script.proofs.laws.first_command_is_one.Goals as goal

pub returns : goal.returns
returns c = FirstCommand-one c.args.text.now
