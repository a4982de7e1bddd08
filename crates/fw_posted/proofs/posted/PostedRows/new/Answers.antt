use Rattle.std.proofs.Common.{refl}
use Rattle.fw_posted.specs.Marks.{selected}
use Rattle.fw_posted.specs.Parts.{AreParts}
use Rattle.fw_posted.proofs.posted.PostedRows.new.Goals as goal

pub invariant_of-result : goal.invariant_of-result
unfolding AreParts selected
invariant_of-result c = rw (c.new.ensures, c.new-2.ensures) (record { parts = tt; rows = refl; counting = refl })
