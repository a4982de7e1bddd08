use Rattle.std.proofs.Common.{◌≡◌, ◌<◌, All, length, map}
use Rattle.fw_row_table.specs.Table.{tags_of}
use Rattle.fw_check.specs.Counts.{counted_all, text_counts}
use Rattle.fw_check.specs.Known.{AreKnown}
use Rattle.fw_check.proofs.statistics.count_tags.Given as goal

-- the tags that are left, counted after those so far, are all of them
abbrev pub invariant-loop-rest : goal.invariant-loop-rest
invariant-loop-rest l = record {
  counted : counted_all (map (λ t. t.key) (tags_of l.names l.rest)) (text_counts l.counts.entries)
      ≡ counted_all (map (λ t. t.key) (tags_of l.names l.list)) (text_counts l.fn.counts.entries);
  within : All (λ one. one < length l.names) l.rest;
  places : AreKnown l.names l.known (text_counts l.counts.entries);
}

-- each turn takes a tag
abbrev pub decreases-loop-rest : goal.decreases-loop-rest
decreases-loop-rest l = length l.rest
