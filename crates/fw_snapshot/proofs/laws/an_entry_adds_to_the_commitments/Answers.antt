use Rattle.fw_snapshot.proofs.AddingFacts.{commitments_of_more, changes_no_more}
use Rattle.fw_snapshot.proofs.laws.an_entry_adds_to_the_commitments.Goals as goal

pub returns-clause-after : goal.returns-clause-after
returns-clause-after c = commitments_of_more

pub returns-clause-others : goal.returns-clause-others
returns-clause-others c = changes_no_more
