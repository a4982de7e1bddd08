use Rattle.std.proofs.Common.{◌≡◌, ◌^◌, length, sum, arith, ap, ◌∙◌}
use Rattle.std.proofs.lemmas.Result.{IfOk-weaker}
use Rattle.fw_amortise.specs.Lines.{weights_of}
use Rattle.fw_amortise.proofs.Weights.{sum-weights_of, length-weights_of, shares_small}
use Rattle.fw_amortise.proofs.shared.shares_of.Goals as goal

pub share_counts-requires-clause-positive : goal.share_counts-requires-clause-positive
share_counts-requires-clause-positive c =
    let whole : sum c.deref.result.now ≡ _ = ap sum c.deref.ensures.value ∙ (ap sum c.in_ok-weights.ensures ∙ sum-weights_of c.args.takes.now c.args.unused) in
    omega (arith, whole, c.requires.whole, c.amount_in-amount.ensures.in_limits.capacity_some)

pub share_counts-requires-clause-small : goal.share_counts-requires-clause-small
share_counts-requires-clause-small c =
    let whole : sum c.deref.result.now ≡ _ = ap sum c.deref.ensures.value ∙ (ap sum c.in_ok-weights.ensures ∙ sum-weights_of c.args.takes.now c.args.unused) in
    omega (arith, whole, c.requires.whole, c.amount_in-amount.ensures.in_limits.capacity_most)

pub returns-clause-shares : goal.returns-clause-shares
returns-clause-shares c =
    let weights : c.deref.result.now ≡ weights_of c.args.takes.now c.args.unused = c.deref.ensures.value ∙ c.in_ok-weights.ensures in
    rw (c.amount_in-amount.ensures.value, weights) at c.share_counts.ensures

pub returns-clause-small : goal.returns-clause-small
returns-clause-small c =
    IfOk-weaker c.share_counts.result _ _ (λ v h. shares_small _ _ v.items (10 ^ 17) c.amount_in-amount.ensures.in_range h) c.share_counts.ensures

pub returns-clause-enough : goal.returns-clause-enough
returns-clause-enough c =
    let weights : c.deref.result.now ≡ weights_of c.args.takes.now c.args.unused = c.deref.ensures.value ∙ c.in_ok-weights.ensures in
    IfOk-weaker c.share_counts.result _ _ (λ v h. omega (arith, h.one_each, ap length weights, length-weights_of c.args.takes.now c.args.unused)) c.share_counts.ensures
