use Rattle.fw_rows.proofs.OneReading.{text-one}
use Rattle.fw_rows.proofs.laws.rows_read_as_one.Goals as goal

pub returns : goal.returns
returns c = text-one c.args.currency c.args.text.now
