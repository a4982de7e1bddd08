use Rattle.std.proofs.Common.{arith}
use Rattle.fw_snapshot.proofs.LegalFacts.{few_rows, few_commitments}
use Rattle.fw_snapshot.proofs.AddedFacts.{commitments_count}
use Rattle.fw_snapshot.proofs.WithdrawnFacts.{rows_of_at_most}
use Rattle.fw_snapshot.proofs.laws.rows_and_commitments_are_few.Goals as goal

pub returns-clause-posted : goal.returns-clause-posted
returns-clause-posted c = few_rows

pub returns-clause-rows : goal.returns-clause-rows
returns-clause-rows c = λ es legal. omega (arith, few_rows es legal, rows_of_at_most es)

pub returns-clause-commitments : goal.returns-clause-commitments
returns-clause-commitments c = λ es legal. rw commitments_count (few_commitments es legal)
