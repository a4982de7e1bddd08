use Rattle.fw_cover.proofs.Listing.{map_places}
use Rattle.fw_cover.proofs.order.in_order.Goals as goal

pub returns : goal.returns
returns c = rw (← c.in_ok-ordered.ensures, ← map_places c.in_ok-ordered.ordered.items, ← c.deref.ensures.value) c.places.ensures
