use Rattle.std.proofs.Common.{◌≡◌, ◌++◌, map, take}
use Rattle.fw_columns.specs.Joining.{replaced_code}
use Rattle.fw_columns.proofs.joining.push_codes.Given as goal

abbrev pub invariant-loop-code : goal.invariant-loop-code
invariant-loop-code l = l.column.items ≡ l.fn.column.items ++ map (replaced_code l.places) (take l.code-index l.codes)
