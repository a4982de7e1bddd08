use Rattle.std.proofs.Common.{◌≡◌, ◌≤◌, take}
use Rattle.std.specs.List.{All}
use Rattle.fw_charge.specs.Charge.{last_second}
use Rattle.fw_commitment.specs.Rules.{purchases_stated}
use Rattle.fw_commitment.proofs.purchases.purchases_of.Given as goal

abbrev pub invariant-loop-payment : goal.invariant-loop-payment
invariant-loop-payment l = record { same : purchases_stated l.purchases.items ≡ take l.payment-index l.payments; dated : All (λ p. p.at ≤ last_second) l.purchases.items }
