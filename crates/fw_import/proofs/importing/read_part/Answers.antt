use Rattle.fw_import.proofs.ImportFacts.{counted}
use Rattle.fw_import.proofs.importing.read_part.Goals as goal

pub new-requires : goal.new-requires
new-requires c = counted c.args.currency c.args.text.now c.in-Ok.rows (rw c.in-Ok.is at c.rows_of-read.ensures.rows)
