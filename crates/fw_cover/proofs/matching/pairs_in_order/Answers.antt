use Rattle.std.proofs.Common.{map}
use Rattle.std.specs.List.{enumerate_from, flat_map}
use Rattle.fw_cover.specs.Offers.{pairs_with}
use Rattle.fw_cover.proofs.ByRank.{ranks_in_order, ranks_within}
use Rattle.fw_cover.proofs.matching.pairs_in_order.Goals as goal

pub returns : goal.returns
returns c = λ table found ranks.
    let rows = enumerate_from 0 (map (λ r. r.now) c.args.rows.now) in
    let all = flat_map (pairs_with c.args.hour table) rows in
    rw (ranks_in_order c.args.ranks all (ranks_within c.args.ranks c.args.hour table rows ranks), ← c.in_ok-lists.ensures table found, ← c.deref.ensures.value) c.in_ok-pairs.ensures
