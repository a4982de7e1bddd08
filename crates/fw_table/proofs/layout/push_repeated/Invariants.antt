use Rattle.std.proofs.Common.{string_bytes}
use Rattle.fw_table.specs.Shown.{AreShownLines}
use Rattle.fw_table.proofs.layout.push_repeated.Given as goal

abbrev pub invariant-loop : goal.invariant-loop
invariant-loop l = AreShownLines (string_bytes l.fn.text) → AreShownLines (string_bytes l.text)
