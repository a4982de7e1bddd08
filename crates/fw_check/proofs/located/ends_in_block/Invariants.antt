use Rattle.std.proofs.Common.{◌≡◌, ◌+◌, ◌≤◌, take}
use Rattle.fw_check.specs.Lines.{line_ends_in}
use Rattle.fw_check.proofs.located.ends_in_block.Given as goal

-- the lines that end in the bytes so far are counted
abbrev pub invariant-loop-index : goal.invariant-loop-index
invariant-loop-index l = (l.count ≤ l.index) × (line_ends_in l.line_end (take (l.at + l.index) l.text) ≡ line_ends_in l.line_end (take l.at l.text) + l.count)
