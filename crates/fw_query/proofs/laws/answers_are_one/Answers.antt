use Rattle.fw_query.proofs.OneAnswer.{answer_same, lines_of_same, texts_of_same}
use Rattle.fw_query.proofs.laws.answers_are_one.Goals as goal

pub returns : goal.returns
returns c = record { reports = answer_same; lines = lines_of_same; texts = texts_of_same }
