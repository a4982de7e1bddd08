use Rattle.fw_compare.proofs.ShownFacts.{shown_after, shown_before}
use Rattle.fw_compare.proofs.laws.shown_lines_keep_the_sums.Goals as goal

pub returns-clause-before : goal.returns-clause-before
returns-clause-before c = shown_before

pub returns-clause-after : goal.returns-clause-after
returns-clause-after c = shown_after
