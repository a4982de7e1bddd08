use Rattle.std.proofs.Common.{take}
use Rattle.fw_cover.proofs.Left.{CoveredBy}
use Rattle.fw_cover.proofs.covering.cover_pairs.Given as goal

abbrev pub invariant-loop-pair : goal.invariant-loop-pair
invariant-loop-pair l = CoveredBy l.billed l.quantities l.capacities (take l.pair-index l.pairs) l.row_left.items l.capacity_left.items l.taken.items
