use Rattle.std.proofs.Common.{◌≡◌, ◌++◌, length, take}
use Rattle.std.specs.List.{flat_map}
use Rattle.fw_bytes.specs.Spelling.{number32}
use Rattle.fw_entry.specs.Spelling.{entry}
use Rattle.fw_segment.proofs.groups.put_group.Given as goal

-- the number and the entries so far are written
abbrev pub invariant-loop-entry : goal.invariant-loop-entry
invariant-loop-entry l = l.out.items ≡ l.fn.out.items ++ (number32 (length l.entries) ++ flat_map entry (take l.entry-index l.entries))
