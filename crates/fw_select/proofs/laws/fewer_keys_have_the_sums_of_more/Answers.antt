use Rattle.fw_select.proofs.LawFacts.{without_one}
use Rattle.fw_select.proofs.laws.fewer_keys_have_the_sums_of_more.Goals as goal

pub returns : goal.returns
returns c = λ place fewer s lines few groups is all some. without_one place fewer s lines groups few is all.are_totals some.are_totals
