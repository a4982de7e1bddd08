use Rattle.std.proofs.Common.{refl}
use Rattle.fw_script.specs.Commands.{IsCommand}
use Rattle.fw_script.proofs.CommandsLaws.{word_or_none}
use Rattle.fw_script.proofs.reader.read_question.Goals as goal

pub returns-in-Some : goal.returns-in-Some
unfolding IsCommand
returns-in-Some c = λ following. (c.in-Some.ensures, refl)

pub returns-in-Some-lines_line : goal.returns-in-Some-lines_line
unfolding IsCommand
returns-in-Some-lines_line c = λ following. (c.in-Some-lines_line.ensures, refl)

pub returns-in-None : goal.returns-in-None
returns-in-None c = rw c.unwrap_or.ensures (word_or_none _ c.word_command.result c.requires c.in_default.ensures c.in-None.ensures c.word_command.ensures)
