use Rattle.std.proofs.Common.{◌==◌, ◌∙◌, ap, length, not}
use Rattle.fw_cover.proofs.Listed.{listed_by_offers}
use Rattle.fw_cover.proofs.roster.Roster.lists_sku.Goals as goal

pub returns : goal.returns
returns c =
    ap not c.is_empty.ensures ∙ ap (λ l. not (length l == 0)) c.offers-offers.ensures ∙ listed_by_offers c.args.self.now c.args.sku.now
