use Rattle.std.proofs.Common.{length}
use Rattle.fw_row_table.proofs.TableFacts.{AreSplit}
use Rattle.fw_row_table.proofs.reading.tags_of.Given as goal

abbrev pub invariant-loop-rest : goal.invariant-loop-rest
invariant-loop-rest l = AreSplit l.names l.tags.items l.rest l.list

abbrev pub decreases-loop-rest : goal.decreases-loop-rest
decreases-loop-rest l = length l.rest
