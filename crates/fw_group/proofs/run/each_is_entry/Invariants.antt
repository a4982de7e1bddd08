use Rattle.std.proofs.Common.{All, take}
use Rattle.fw_entry.specs.Spelling.{IsEntry}
use Rattle.fw_group.proofs.run.each_is_entry.Given as goal

abbrev pub invariant-loop-entry : goal.invariant-loop-entry
invariant-loop-entry l = All IsEntry (take l.entry-index l.entries)
