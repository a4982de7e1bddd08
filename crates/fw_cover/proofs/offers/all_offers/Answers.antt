use Rattle.fw_cover.specs.Offers.{offers_by}
use Rattle.fw_cover.proofs.Listing.{offers_more}
use Rattle.fw_cover.proofs.offers.all_offers.Goals as goal

pub loop-rank-preserved : goal.loop-rank-preserved
loop-rank-preserved c =
    let d = c.index-ordered-rank.result in
    rw (offers_more offers_by c.args.ordered.now c.loop-rank.rank d c.loop-rank-test.true, ← c.index-ordered-rank.is, ← c.loop-rank.invariant) c.in_ok-add_offers.ensures
