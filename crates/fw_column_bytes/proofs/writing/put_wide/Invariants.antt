use Rattle.fw_bytes.specs.Spelling.{number64}
use Rattle.fw_column_bytes.proofs.Written.{AreFilled}
use Rattle.fw_column_bytes.proofs.writing.put_wide.Given as goal

abbrev pub invariant-loop-index : goal.invariant-loop-index
invariant-loop-index l = AreFilled number64 8 l.fn.out.items l.column l.index l.out.items
