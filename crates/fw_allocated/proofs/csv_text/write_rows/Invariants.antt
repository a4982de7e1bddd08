use Rattle.std.proofs.Common.{[], take}
use Rattle.fw_query.specs.Writers.{HasWritten}
use Rattle.fw_allocated.specs.Writing.{WritesRows}
use Rattle.fw_allocated.proofs.csv_text.write_rows.Given as goal

abbrev pub invariant-loop-row : goal.invariant-loop-row
invariant-loop-row l = HasWritten l.initial.writer [] → WritesRows l.writer l.currency (take l.row-index l.rows)
