use Rattle.std.proofs.Common.{◌∙◌, ap, string_bytes}
use Rattle.std.specs.Str.{bytes_eq}
use Rattle.indexmap.specs.IndexMap.{set_value_at}
use Rattle.indexmap.proofs.MapLemmas.{Found-position}
use Rattle.fw_check.specs.Counts.{text_counts}
use Rattle.fw_check.proofs.CountFacts.{counted_at, is_key}
use Rattle.fw_check.proofs.KnownFacts.{place_shown}
use Rattle.fw_check.proofs.statistics.count_at.Goals as goal

pub returns : goal.returns
returns c key at =
    let entries = c.args.counts.now.entries in
    let times = c.args.times in
    let place = c.args.place in
    let found = Found-position (is_key string_bytes bytes_eq key times) entries place (place_shown key entries ∙ at) in
    ap (λ w. text_counts (set_value_at entries place w)) c.saturating_add.ensures
    ∙ counted_at string_bytes bytes_eq key times entries place c.index.result.now found.or_len
    (found.value ∙ c.index.ensures)
