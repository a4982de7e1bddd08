use Rattle.std.proofs.Common.{◌≡◌, ◌++◌, length, take}
use Rattle.std.specs.List.{flat_map}
use Rattle.fw_bytes.specs.Spelling.{number32}
use Rattle.fw_entry.specs.Spelling.{entry}
use Rattle.fw_snapshot.specs.Verdicts.{chosen}
use Rattle.fw_segment.proofs.accepted.append_accepted.Given as goal

-- the number of the accepted entries and those so far are written
abbrev pub invariant-loop-entry : goal.invariant-loop-entry
invariant-loop-entry l =
    l.out.items ≡ l.fn.out.items ++ (number32 (length (chosen l.entries l.verdicts)) ++ flat_map entry (chosen (take (length l.yielded) l.entries) (take (length l.yielded) l.verdicts)))
