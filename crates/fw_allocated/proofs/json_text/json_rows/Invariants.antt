use Rattle.std.proofs.Common.{take}
use Rattle.std.specs.Prelude.{string_bytes}
use Rattle.fw_allocated.specs.Texts.{AreRowTexts}
use Rattle.fw_allocated.specs.declared.format.ExportFormat.TheVariants.{JsonLines}
use Rattle.fw_allocated.proofs.json_text.json_rows.Given as goal

abbrev pub invariant-loop-row : goal.invariant-loop-row
invariant-loop-row l = AreRowTexts JsonLines l.currency (take l.row-index l.rows) (string_bytes l.text)
