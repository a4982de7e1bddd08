use Rattle.std.proofs.Common.{◌≡◌, ◌<◌, rules, length, string_bytes}
use Rattle.fw_sums.specs.ReportCache.{AreKept}
use Rattle.fw_sums.proofs.CoverFacts.{kept_of}
use Rattle.fw_sums.proofs.cache.ReportCache.remove.Goals as goal

pub returns-clause-kept : goal.returns-clause-kept
unfolding AreKept
returns-clause-kept c = λ cs rows kept.
    let below : c.in_ok-place.place < length c.args.self.now.keys.items = search rules in
    let same : string_bytes c.remove.result.key ≡ c.args.key.now = search rules in
    kept_of cs rows c.args.self.now.keys.items c.in_ok-place.place c.remove.result c.args.key.now kept below c.remove.ensures.value same
