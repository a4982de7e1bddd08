use Rattle.std.proofs.Common.{◌≤◌, filter, take}
use Rattle.fw_series.specs.Lines.{IsLeft, is_left}
use Rattle.fw_series.proofs.lines.left_of.Given as goal

abbrev pub invariant-loop-entry : goal.invariant-loop-entry
invariant-loop-entry l = IsLeft (filter (is_left l.names) (take l.entry-index l.entries)) l.left × (l.left.count ≤ l.entry-index)
