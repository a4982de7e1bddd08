use Rattle.std.proofs.Common.{string_bytes}
use Rattle.fw_table.specs.Shown.{AreShownLines}
use Rattle.fw_table.proofs.layout.push_rule.Given as goal

abbrev pub invariant-loop-place : goal.invariant-loop-place
invariant-loop-place l = AreShownLines (string_bytes l.fn.text) → AreShownLines (string_bytes l.text)
