use Rattle.fw_compact.proofs.AcceptedFacts.{compacted_of}
use Rattle.fw_compact.proofs.NumberFacts.{same_entries, numbers_in_turn}
use Rattle.fw_compact.proofs.laws.counting_entries_are_numbered_in_turn.Goals as goal

pub returns-clause-entries : goal.returns-clause-entries
returns-clause-entries c = same_entries

pub returns-clause-numbers : goal.returns-clause-numbers
returns-clause-numbers c = numbers_in_turn

pub returns-clause-no_greater : goal.returns-clause-no_greater
returns-clause-no_greater c = compacted_of
