use Rattle.std.proofs.Common.{arith, sym, ap}
use Rattle.fw_terms.proofs.Costs.{cost-none, cost_more}
use Rattle.fw_terms.proofs.commitment.total_cost.Goals as goal

pub loop-purchase-init : goal.loop-purchase-init
loop-purchase-init c = record { value = sym cost-none; most = omega arith }

pub overflow_add-cost : goal.overflow_add-cost
overflow_add-cost c =
    let most = c.nanos-cost.ensures.few in
    let before = c.loop-purchase.invariant.most in
    let here = c.loop-purchase-test.true in
    omega arith

pub loop-purchase-preserved : goal.loop-purchase-preserved
loop-purchase-preserved c =
    let ps = c.args.purchases.now in
    let more = cost_more ps c.loop-purchase.purchase-index c.purchase-item.result c.loop-purchase-test.true in
    let billed = c.nanos-cost.ensures.value in
    let most = c.nanos-cost.ensures.few in
    let before = c.loop-purchase.invariant.most in
    let at = ap (λ p. p.billed) c.purchase-item.is in
    record { value = omega arith; most = omega arith }
