use Rattle.std.proofs.Common.{take, All}
use Rattle.fw_charge.specs.Spelling.{FitsTag}
use Rattle.fw_charge.proofs.spelled.tags_have_spelling.Given as goal

abbrev pub invariant-loop-one : goal.invariant-loop-one
invariant-loop-one l = All FitsTag (take l.one-index l.all)
