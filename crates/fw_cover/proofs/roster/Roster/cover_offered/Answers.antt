use Rattle.std.proofs.Common.{◌≡◌, arith, length, ◌∙◌, ap, map, sym}
use Rattle.std.proofs.lemmas.List.{length-map}
use Rattle.fw_cover.specs.Offers.{sku_offers}
use Rattle.fw_cover.specs.Order.{pairs_of}
use Rattle.fw_cover.specs.Hour.{hour_cover, billed_of, quantities_of, capacities_of}
use Rattle.fw_cover.specs.RosterView.{RosterValue, offers_of_row}
use Rattle.fw_cover.proofs.RosterFacts.{offers_ranked, pairs_found}
use Rattle.fw_cover.proofs.Within.{pairs_within}
use Rattle.fw_cover.proofs.roster.Roster.cover_offered.Goals as goal

pub pairs_in_order-requires-clause-one_each : goal.pairs_in_order-requires-clause-one_each
pairs_in_order-requires-clause-one_each c =
    let rows = map (λ r. r.now) c.args.rows.now in
    sym (length-map c.args.offers.now sku_offers) ∙ ap length c.requires.offers ∙ length-map rows (offers_of_row c.args.self.now) ∙ length-map c.args.rows.now (λ r. r.now)

pub pairs_in_order-requires-clause-ranks : goal.pairs_in_order-requires-clause-ranks
pairs_in_order-requires-clause-ranks c =
    let r : RosterValue = record { commitments = c.self.inside.commitments.now; from = c.self.inside.from; to = c.self.inside.to } in
    let rows = map (λ r. r.now) c.args.rows.now in
    let many : c.len.result ≡ length c.self.inside.order.items = omega arith in
    rw many (offers_ranked r c.self.inside.order.items c.self.inside.capacities.items c.self.inside.table.items rows (map sku_offers c.args.offers.now) c.self.invariant (rw c.self.view_is c.requires.offers))

pub cover_pairs-requires-clause-pairs : goal.cover_pairs-requires-clause-pairs
cover_pairs-requires-clause-pairs c =
    let r : RosterValue = record { commitments = c.self.inside.commitments.now; from = c.self.inside.from; to = c.self.inside.to } in
    let cs = r.commitments in
    let rows = map (λ r. r.now) c.args.rows.now in
    let many : c.len.result ≡ length c.self.inside.order.items = omega arith in
    let found : c.in_ok-pairs.pairs.items ≡ pairs_of cs rows c.args.hour =
    pairs_found r c.self.inside.order.items c.self.inside.capacities.items c.self.inside.table.items rows c.args.hour (map sku_offers c.args.offers.now) c.in_ok-pairs.pairs.items c.self.invariant (rw c.self.view_is c.requires.hour) (rw c.self.view_is c.requires.offers) (rw many at c.in_ok-pairs.ensures) in
    let pairs : c.deref.result.now ≡ pairs_of cs rows c.args.hour = c.deref.ensures.value ∙ found in
    let billed : c.deref-2.result.now ≡ billed_of rows = c.deref-2.ensures.value ∙ c.in_ok-billed.ensures.values in
    let quantities : c.deref-3.result.now ≡ quantities_of rows = c.deref-3.ensures.value ∙ c.in_ok-quantities.ensures.values in
    let capacities : c.deref-4.result.now ≡ capacities_of cs = c.deref-4.ensures.value ∙ c.self.invariant.capacities in
    rw (pairs, billed, quantities, capacities) (pairs_within cs rows c.args.hour c.self.invariant.valid (rw c.in_ok-billed.ensures.values at c.in_ok-billed.ensures.most) (rw c.in_ok-quantities.ensures.values at c.in_ok-quantities.ensures.most))

pub returns : goal.returns
unfolding hour_cover
returns c =
    let r : RosterValue = record { commitments = c.self.inside.commitments.now; from = c.self.inside.from; to = c.self.inside.to } in
    let cs = r.commitments in
    let rows = map (λ r. r.now) c.args.rows.now in
    let many : c.len.result ≡ length c.self.inside.order.items = omega arith in
    let found : c.in_ok-pairs.pairs.items ≡ pairs_of cs rows c.args.hour =
    pairs_found r c.self.inside.order.items c.self.inside.capacities.items c.self.inside.table.items rows c.args.hour (map sku_offers c.args.offers.now) c.in_ok-pairs.pairs.items c.self.invariant (rw c.self.view_is c.requires.hour) (rw c.self.view_is c.requires.offers) (rw many at c.in_ok-pairs.ensures) in
    let pairs : c.deref.result.now ≡ pairs_of cs rows c.args.hour = c.deref.ensures.value ∙ found in
    let billed : c.deref-2.result.now ≡ billed_of rows = c.deref-2.ensures.value ∙ c.in_ok-billed.ensures.values in
    let quantities : c.deref-3.result.now ≡ quantities_of rows = c.deref-3.ensures.value ∙ c.in_ok-quantities.ensures.values in
    let capacities : c.deref-4.result.now ≡ capacities_of cs = c.deref-4.ensures.value ∙ c.self.invariant.capacities in
    rw (← c.self.view_is) (rw (pairs, billed, quantities, capacities) at c.cover_pairs.ensures)
