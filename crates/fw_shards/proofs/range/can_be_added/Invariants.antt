use Rattle.std.proofs.Common.{◌≡◌, take}
use Rattle.fw_shards.specs.Added.{all_of, billed_size, capped, direct_size}
use Rattle.fw_shards.proofs.range.can_be_added.Given as goal

-- the sizes of the reports so far
abbrev pub invariant-loop-report : goal.invariant-loop-report
invariant-loop-report l = record {
  billed : l.billed ≡ capped (billed_size (all_of (take l.report-index l.reports)));
  direct : l.direct ≡ capped (direct_size (all_of (take l.report-index l.reports)));
}
