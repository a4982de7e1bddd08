use Rattle.fw_bytes.specs.Spelling.{number32}
use Rattle.fw_column_bytes.proofs.Written.{AreFilled}
use Rattle.fw_column_bytes.proofs.writing.put_codes.Given as goal

abbrev pub invariant-loop-index : goal.invariant-loop-index
invariant-loop-index l = AreFilled number32 4 l.fn.out.items l.column l.index l.out.items
