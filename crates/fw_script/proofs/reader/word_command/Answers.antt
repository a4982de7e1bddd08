use Rattle.std.proofs.Common.{refl}
use Rattle.fw_script.specs.Commands.{IsCommand}
use Rattle.fw_script.proofs.reader.word_command.Goals as goal

pub returns-then-is_word : goal.returns-then-is_word
unfolding IsCommand
returns-then-is_word c = λ following. (c.is_word.ensures.0 c.if-is_word.true, refl)

pub returns-then-is_word-2 : goal.returns-then-is_word-2
unfolding IsCommand
returns-then-is_word-2 c = λ following. (c.is_word-2.ensures.0 c.if-is_word-2.true, refl)
