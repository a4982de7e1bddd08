use Rattle.std.proofs.Common.{take}
use Rattle.std.specs.Prelude.{All}
use Rattle.fw_columns.specs.Parts.{IsTagList}
use Rattle.fw_columns.proofs.checking.are_tag_lists.Given as goal

abbrev pub invariant-loop-place : goal.invariant-loop-place
invariant-loop-place l = All (IsTagList l.names) (take l.place l.lists)
