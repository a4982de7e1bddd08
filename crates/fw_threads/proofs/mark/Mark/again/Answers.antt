use Rattle.std.proofs.Common.{◌≡◌, ◌<◌, length, sym, subst}
use Rattle.fw_snapshot.specs.History.{History}
use Rattle.fw_growing.specs.Rule.{Begun}
use Rattle.fw_threads.specs.Fronts.{latest, IsChain}
use Rattle.fw_threads.proofs.mark.Mark.again.Goals as goal

pub invariant_of-result : goal.invariant_of-result
invariant_of-result c =
    subst (λ (b : Begun History). (c.self.inside.entries ≡ length (latest b.list).entries) × (0 < length b.list) × IsChain b.list) (sym c.again.ensures) c.self.invariant
