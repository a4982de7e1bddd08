use Rattle.std.proofs.Common.{◌≡◌, take, map, pos}
use Rattle.fw_allocate.specs.GiftView.{texts}
use Rattle.fw_allocate.proofs.gift.Receivers.of_targets.Given as goal

abbrev pub invariant-loop-target : goal.invariant-loop-target
invariant-loop-target l = (texts l.groups.items ≡ map (λ t. t.group) (take l.target-index l.targets)) × (l.weights.items ≡ map (λ t. pos t.weight) (take l.target-index l.targets))
