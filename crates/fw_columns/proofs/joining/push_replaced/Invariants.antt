use Rattle.std.proofs.Common.{◌≡◌, ◌++◌, take}
use Rattle.fw_columns.specs.Joining.{replaced}
use Rattle.fw_columns.proofs.joining.push_replaced.Given as goal

abbrev pub invariant-loop-place : goal.invariant-loop-place
invariant-loop-place l = l.column.items ≡ l.fn.column.items ++ replaced l.places (take l.place-index l.list)
