use Rattle.fw_serve.proofs.StopFacts.{left_answered, left_answered_after, left_command, left_prefix}
use Rattle.fw_serve.proofs.laws.a_crash_keeps_what_was_answered.Goals as goal

pub returns-clause-command : goal.returns-clause-command
returns-clause-command c = left_command

pub returns-clause-answered : goal.returns-clause-answered
returns-clause-answered c = left_answered

pub returns-clause-answered_after : goal.returns-clause-answered_after
returns-clause-answered_after c = left_answered_after

pub returns-clause-prefix : goal.returns-clause-prefix
returns-clause-prefix c = left_prefix
