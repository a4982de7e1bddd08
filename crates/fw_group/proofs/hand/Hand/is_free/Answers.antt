use Rattle.std.proofs.Common.{◌≡◌, ◌≢◌, ℕ, All, subst, sym}
use Rattle.std.proofs.lemmas.List.Elements.{All-map}
use Rattle.fw_group.specs.Items.{importer_of}
use Rattle.fw_group.proofs.Items.{free_items}
use Rattle.fw_group.proofs.hand.Hand.is_free.Goals as goal

pub returns : goal.returns
returns c = (
  (λ yes. free_items c.args.self.now c.args.importer (subst (All (λ (other : ℕ). other ≢ c.args.importer)) c.importers.ensures (c.is_none.ensures.0 yes))),
  (λ free. c.is_none.ensures.1 (subst (All (λ (other : ℕ). other ≢ c.args.importer)) (sym c.importers.ensures) (All-map (λ (other : ℕ). other ≢ c.args.importer) importer_of c.args.self.now free))),
)
