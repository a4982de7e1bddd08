use Rattle.fw_query.proofs.ElsewhereFacts.{lines_stay, reports_stay}
use Rattle.fw_query.proofs.laws.what_is_withdrawn_changes_no_other_hours.Goals as goal

pub returns : goal.returns
returns c = record { lines = lines_stay; reports = reports_stay }
