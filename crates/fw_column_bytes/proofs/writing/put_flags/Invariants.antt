use Rattle.std.proofs.Common.{◌≡◌, ◌++◌, map, take}
use Rattle.fw_column_bytes.specs.Spelling.{flag}
use Rattle.fw_column_bytes.proofs.writing.put_flags.Given as goal

abbrev pub invariant-loop-is_set : goal.invariant-loop-is_set
invariant-loop-is_set l = l.out.items ≡ l.fn.out.items ++ map flag (take l.is_set-index l.column)
