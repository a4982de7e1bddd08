use Rattle.fw_query.proofs.AccountedFacts.{lines_account}
use Rattle.fw_query.proofs.laws.rows_are_counted_once.Goals as goal

pub returns : goal.returns
returns c = lines_account
