use Rattle.std.proofs.Common.{is_ok, string_bytes}
use Rattle.fw_sums.specs.ReportCache.{AreKept, IsKept}
use Rattle.fw_sums.proofs.CoverFacts.{all_pushed}
use Rattle.fw_sums.proofs.cache.ReportCache.put.Goals as goal

pub returns-in-Ok : goal.returns-in-Ok
unfolding AreKept
returns-in-Ok c = λ cs rows cache own.
    all_pushed (λ k. IsKept cs rows (string_bytes k.key) k.kept) (is_ok c.push-pushed.result) _ _ _ c.push-pushed.ensures.items (c.make_room.ensures cs rows cache) (rw c.in-Ok.ensures.ok own)

pub returns-in_default : goal.returns-in_default
returns-in_default c = λ cs rows cache own. c.make_room.ensures cs rows cache
