use Rattle.fw_import.proofs.ImportFacts.{counted_kept}
use Rattle.fw_import.proofs.keeping.read_part_keeping.Goals as goal

pub new-requires : goal.new-requires
new-requires c = counted_kept c.args.currency c.args.keeper.now.keeps c.args.text.now c.in-Ok.rows (rw c.in-Ok.is at c.rows_keeping-read.ensures.rows)
