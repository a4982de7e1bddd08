use Rattle.std.proofs.Common.{◌<◌, ℕ, List, All, length, sym, subst}
use Rattle.fw_columns.proofs.SkuFacts.{code_within, places_there, sku_places_within}
use Rattle.fw_columns.proofs.columns.Columns.places_of_sku.Goals as goal

pub places_of-requires-clause-hour : goal.places_of-requires-clause-hour
places_of-requires-clause-hour c = c.by_sku.ensures.run c.args.number c.requires.hour

pub places_of-requires-clause-code : goal.places_of-requires-clause-code
places_of-requires-clause-code c = code_within c.by_sku.result.now c.args.self.now c.args.number c.args.which c.by_sku.ensures c.requires.hour c.requires.sku

pub returns-clause-places : goal.returns-clause-places
returns-clause-places c =
    places_there c.by_sku.result.now c.args.self.now c.args.number c.args.which c.by_sku.ensures c.requires.hour c.requires.sku c.places_of.result.now c.places_of.ensures

pub returns-clause-within : goal.returns-clause-within
returns-clause-within c =
    let AreWithin : List ℕ → Type 0 = λ places. All (λ place. place < length c.args.self.now) places in
    subst AreWithin
    (sym (places_there c.by_sku.result.now c.args.self.now c.args.number c.args.which c.by_sku.ensures c.requires.hour c.requires.sku c.places_of.result.now c.places_of.ensures))
    (sku_places_within _ _ c.args.self.now)
