use Rattle.fw_entries.proofs.Left.{all_left}
use Rattle.fw_entries.proofs.rows_left.RowsLeft.of.Goals as goal

pub returns : goal.returns
returns c = all_left c.args.segments.now
