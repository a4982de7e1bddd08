use Rattle.fw_compare.proofs.ChangeFacts.{afters_sum, befores_sum, changes_sum}
use Rattle.fw_compare.proofs.laws.differences_keep_the_total.Goals as goal

pub returns-clause-before : goal.returns-clause-before
returns-clause-before c = befores_sum

pub returns-clause-after : goal.returns-clause-after
returns-clause-after c = afters_sum

pub returns-clause-change : goal.returns-clause-change
returns-clause-change c = changes_sum
