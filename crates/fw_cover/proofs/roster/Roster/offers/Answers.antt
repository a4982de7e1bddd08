use Rattle.std.proofs.Common.{◌≡◌, ◌∙◌, map}
use Rattle.fw_cover.specs.Offers.{offer_of, offered_in, table_view}
use Rattle.fw_cover.specs.RosterView.{RosterValue}
use Rattle.fw_cover.proofs.RosterFacts.{offers_are}
use Rattle.fw_cover.proofs.roster.Roster.offers.Goals as goal

pub returns : goal.returns
returns c =
    let r : RosterValue = record { commitments = c.self.inside.commitments.now; from = c.self.inside.from; to = c.self.inside.to } in
    let sku = c.args.sku.now in
    let table = c.self.inside.table.items in
    let found : map offer_of c.offered.result.now ≡ offered_in sku (table_view table) = rw c.deref.ensures.value at c.offered.ensures in
    rw (← c.self.view_is) (found ∙ offers_are r c.self.inside.order.items c.self.inside.capacities.items table sku c.self.invariant)
