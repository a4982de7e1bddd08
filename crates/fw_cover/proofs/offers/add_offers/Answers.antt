use Rattle.std.proofs.Common.{◌∙◌, sym, ap, string_bytes}
use Rattle.fw_terms.specs.TermsView.{terms_view}
use Rattle.fw_cover.specs.PlacedView.{placed_of}
use Rattle.fw_cover.proofs.Index.{usage_offers, spend_offers}
use Rattle.fw_cover.proofs.offers.add_offers.Goals as goal

pub returns-in-Usage : goal.returns-in-Usage
returns-in-Usage c =
    rw (usage_offers string_bytes (c.args.rank, placed_of c.args.placed) (string_bytes c.in-Usage.unit) c.in-Usage.skus.items (sym c.terms.ensures.value ∙ ap terms_view c.in-Usage.is), ← c.deref.ensures.value) c.add_skus.ensures

pub returns-in-Spend : goal.returns-in-Spend
returns-in-Spend c =
    rw (spend_offers (c.args.rank, placed_of c.args.placed) c.in-Spend.rates.items (sym c.terms.ensures.value ∙ ap terms_view c.in-Spend.is), ← c.deref-in-Spend.ensures.value) c.add_rates.ensures
