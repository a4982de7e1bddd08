use Rattle.std.proofs.Common.{◌∙◌, ◌<◌, ℕ, List, All, length, sym, subst}
use Rattle.fw_columns.proofs.HourFacts.{places_within}
use Rattle.fw_columns.proofs.columns.Columns.places_in.Goals as goal

pub places_in-requires : goal.places_in-requires
places_in-requires c = c.by_hour.ensures.by_hour.run c.args.number c.requires

pub returns-clause-places : goal.returns-clause-places
returns-clause-places c = c.places_in.ensures.places ∙ c.by_hour.ensures.by_hour.places c.args.number c.requires

pub returns-clause-within : goal.returns-clause-within
returns-clause-within c =
    let AreWithin : List ℕ → Type 0 = λ places. All (λ place. place < length c.args.self.now) places in
    subst AreWithin (sym (c.places_in.ensures.places ∙ c.by_hour.ensures.by_hour.places c.args.number c.requires)) (places_within _ c.args.self.now)
