use Rattle.fw_select.proofs.LawFacts.{mapped_sums}
use Rattle.fw_select.proofs.laws.mapped_groups_are_sums.Goals as goal

pub returns : goal.returns
returns c = λ unmapped s lines as_is groups is all some. mapped_sums unmapped s lines as_is groups is all.are_totals some.are_totals
