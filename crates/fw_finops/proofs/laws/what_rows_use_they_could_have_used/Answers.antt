use Rattle.fw_finops.proofs.UsableFacts.{used_in_hour, used_in_hours}
use Rattle.fw_finops.proofs.laws.what_rows_use_they_could_have_used.Goals as goal

pub returns : goal.returns
returns c = record { hour = used_in_hour; hours = used_in_hours }
