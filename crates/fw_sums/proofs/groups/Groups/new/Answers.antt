use Rattle.std.proofs.Common.{refl}
use Rattle.fw_sums.proofs.SumFacts.{AreSums-none, AreSmall-none}
use Rattle.fw_sums.proofs.groups.Groups.new.Goals as goal

pub returns : goal.returns
returns c = record { counts = record { are_sums = AreSums-none _ c.new.ensures.empty; small = AreSmall-none }; no_lines = refl }
