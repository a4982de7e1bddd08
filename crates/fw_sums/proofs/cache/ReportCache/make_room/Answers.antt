use Rattle.std.proofs.Common.{string_bytes}
use Rattle.fw_sums.specs.ReportCache.{AreKept, IsKept}
use Rattle.fw_sums.proofs.CoverFacts.{all_removed}
use Rattle.fw_sums.proofs.cache.ReportCache.make_room.Goals as goal

pub returns-then-len-ge-MOST_KEYS : goal.returns-then-len-ge-MOST_KEYS
unfolding AreKept
returns-then-len-ge-MOST_KEYS c = λ cs rows kept. all_removed (λ k. IsKept cs rows (string_bytes k.key) k.kept) _ _ 0 c.remove-oldest.ensures.by_index.2 kept
