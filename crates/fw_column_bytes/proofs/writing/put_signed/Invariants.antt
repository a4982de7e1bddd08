use Rattle.fw_bytes.specs.Spelling.{signed64}
use Rattle.fw_column_bytes.proofs.Written.{AreFilled}
use Rattle.fw_column_bytes.proofs.writing.put_signed.Given as goal

abbrev pub invariant-loop-index : goal.invariant-loop-index
invariant-loop-index l = AreFilled signed64 8 l.fn.out.items l.column l.index l.out.items
