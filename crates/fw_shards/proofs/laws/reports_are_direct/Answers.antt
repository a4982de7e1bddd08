use Rattle.fw_shards.proofs.HistoryFacts.{report_is_direct}
use Rattle.fw_shards.proofs.laws.reports_are_direct.Goals as goal
use Rattle.fw_snapshot.specs.History.{commitments_of, policy_of, rows_of}

pub returns : goal.returns
returns c = λ history key from to report other is. report_is_direct (commitments_of history) (rows_of history) (policy_of history) key from to report other is
