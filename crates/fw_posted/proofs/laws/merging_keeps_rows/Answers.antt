use Rattle.fw_posted.proofs.MergeFacts.{count_merged, rows_merged}
use Rattle.fw_posted.proofs.laws.merging_keeps_rows.Goals as goal

pub returns-clause-rows : goal.returns-clause-rows
returns-clause-rows c = rows_merged

pub returns-clause-count : goal.returns-clause-count
returns-clause-count c = count_merged
