-- What counters are seen as, and what is true of each.
use Rattle.fw_persistent.specs.declared.counters.Counters.TheInside.{Inside}
use Rattle.fw_persistent.specs.Branches.{branch_values}
use Rattle.fw_persistent.specs.Counts.{Counts, AreCounted}
use Rattle.fw_persistent.specs.Values.{IsRising}

-- their counts, by rising texts
abbrev pub counters_counts : Inside → Counts
counters_counts c = branch_values c.root

-- the texts rise, and each was counted
abbrev pub KeepsCounters : Inside → Type 0
KeepsCounters c = IsRising (branch_values c.root) × AreCounted (branch_values c.root)
