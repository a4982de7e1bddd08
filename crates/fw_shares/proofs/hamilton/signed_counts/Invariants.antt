use Rattle.std.proofs.Common.{◌≡◌, map, take}
use Rattle.fw_shares.specs.Shares.{signed_as}
use Rattle.fw_shares.proofs.hamilton.signed_counts.Given as goal

abbrev pub invariant-loop-count : goal.invariant-loop-count
invariant-loop-count l = l.shares.items ≡ map (signed_as l.total) (take l.count-index l.counts)
