use Rattle.fw_select.proofs.OneTagFacts.{counts_the_same}
use Rattle.fw_select.proofs.laws.one_tag_counts_as_a_report_does.Goals as goal

pub returns : goal.returns
returns c = λ name s lines is. counts_the_same name s lines is
