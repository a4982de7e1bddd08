use Rattle.std.proofs.Common.{◌≡◌, ◌++◌, take}
use Rattle.fw_series.specs.Escapes.{escaped}
use Rattle.fw_series.proofs.escapes.push_escaped.Given as goal

abbrev pub invariant-loop-byte : goal.invariant-loop-byte
invariant-loop-byte l = l.page.items ≡ l.fn.page.items ++ escaped (take l.byte-index l.byte-items)
