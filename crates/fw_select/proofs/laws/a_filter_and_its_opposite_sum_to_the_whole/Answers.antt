use Rattle.fw_select.proofs.FilterFacts.{split}
use Rattle.fw_select.proofs.laws.a_filter_and_its_opposite_sum_to_the_whole.Goals as goal

pub returns : goal.returns
returns c = λ held failed s lines a b all is are_yes are_no are. split held failed s lines a b all is are_yes.are_totals are_no.are_totals are.are_totals
