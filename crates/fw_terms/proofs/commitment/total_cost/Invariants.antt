use Rattle.std.proofs.Common.{◌≡◌, ◌*◌, ◌≤◌, take}
use Rattle.fw_money.specs.Amount.{most_nanos}
use Rattle.fw_terms.specs.Commitment.{cost_of}
use Rattle.fw_terms.proofs.commitment.total_cost.Given as goal

abbrev pub invariant-loop-purchase : goal.invariant-loop-purchase
invariant-loop-purchase l = record { value : l.cost ≡ cost_of (take l.purchase-index l.purchases); most : l.cost ≤ l.purchase-index * most_nanos }
