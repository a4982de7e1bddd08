use Rattle.std.proofs.Common.{◌≡◌, map, take}
use Rattle.fw_series.specs.Lines.{kept, line_value}
use Rattle.fw_series.proofs.lines.kept.Given as goal

abbrev pub invariant-loop-entry : goal.invariant-loop-entry
invariant-loop-entry l = map line_value l.lines.items ≡ kept l.names (take l.entry-index l.entries)
