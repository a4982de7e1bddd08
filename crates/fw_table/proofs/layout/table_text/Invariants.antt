use Rattle.std.proofs.Common.{string_bytes}
use Rattle.fw_table.specs.Shown.{AreShownLines}
use Rattle.fw_table.proofs.layout.table_text.Given as goal

abbrev pub invariant-loop-line : goal.invariant-loop-line
invariant-loop-line l = AreShownLines (string_bytes l.text)
