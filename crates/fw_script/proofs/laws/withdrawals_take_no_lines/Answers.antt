use Rattle.fw_script.proofs.CommandsLaws.{withdrawal_there, withdrawal_target}
use Rattle.fw_script.proofs.laws.withdrawals_take_no_lines.Goals as goal

pub returns-clause-taken : goal.returns-clause-taken
returns-clause-taken c = withdrawal_there c.args.text.now

pub returns-clause-target : goal.returns-clause-target
returns-clause-target c = withdrawal_target c.args.text.now
