use Rattle.std.proofs.Common.{rules, ◌≤◌, ◌^◌, pos, ◌≤ℤ◌, unsigned_abs, All, sym, subst, ap, ◌∙◌, arith}
use Rattle.std.proofs.lemmas.Int.{to_z-of_z}
use Rattle.std.proofs.lemmas.List.Elements.{All-nil}
use Rattle.std.specs.Int.{w128}
use Rattle.fw_terms.specs.Texts.{IsRising}
use Rattle.fw_allocate.specs.Charges.{receivers, weights}
use Rattle.fw_allocate.specs.Costs.{cost_in}
use Rattle.fw_allocate.proofs.GiftFacts.{cost_small, weights_small, weights_signs, receivers_rising, shares_bounded}
use Rattle.fw_allocate.proofs.gift.Gift.of_rule.Goals as goal

pub weight_sum-requires : goal.weight_sum-requires
weight_sum-requires c =
    let are = c.deref.ensures.value ∙ c.in_ok-receivers.ensures.weights ∙ ap (weights c.args.direct.now c.args.rules.now) c.give.ensures in
    rw are (weights_small c.args.direct.now c.args.rules.now c.args.rule.now.give c.requires.small c.requires.in_limits.give)

pub invariant_of-result : goal.invariant_of-result
invariant_of-result c =
    let groups = c.in_ok-receivers.ensures.groups ∙ ap (receivers c.args.direct.now c.args.rules.now) c.give.ensures in
    record {
      given = omega arith;
      shares = rw c.new-shares.ensures.items (All-nil (λ s. unsigned_abs s ≤ 10 ^ 19));
      rising = subst IsRising (sym groups) (receivers_rising c.args.direct.now c.args.rules.now c.args.rule.now.give c.requires.rising c.requires.in_limits.give);
    }

pub share-requires-clause-signs : goal.share-requires-clause-signs
share-requires-clause-signs c =
    let are = c.deref-2.ensures.value ∙ c.in_ok-receivers.ensures.weights ∙ ap (weights c.args.direct.now c.args.rules.now) c.give.ensures in
    subst (λ ws. All (λ w. pos 0 ≤ℤ w) ws) (sym are) (weights_signs c.args.direct.now c.args.rules.now c.args.rule.now.give)

pub share-requires-clause-small : goal.share-requires-clause-small
share-requires-clause-small c =
    let are = c.deref-2.ensures.value ∙ c.in_ok-receivers.ensures.weights ∙ ap (weights c.args.direct.now c.args.rules.now) c.give.ensures in
    rw are (weights_small c.args.direct.now c.args.rules.now c.args.rule.now.give c.requires.small c.requires.in_limits.give)

pub share-requires-clause-total : goal.share-requires-clause-total
share-requires-clause-total c =
    rw (to_z-of_z w128 c.cost_in-given.result (search rules), c.cost_in-given.ensures) (omega (arith, cost_small c.args.direct.now c.from-from.result.now, c.requires.small))

pub invariant_of-result-2 : goal.invariant_of-result-2
invariant_of-result-2 c =
    let groups = c.in_ok-receivers.ensures.groups ∙ ap (receivers c.args.direct.now c.args.rules.now) c.give.ensures in
    let total = to_z-of_z w128 c.cost_in-given.result (search rules) ∙ c.cost_in-given.ensures in
    let shares = rw total at c.in_ok-shares.ensures.shares in
    let small : unsigned_abs (cost_in c.args.direct.now c.from-from.result.now) ≤ 10 ^ 19 = omega (arith, cost_small c.args.direct.now c.from-from.result.now, c.requires.small) in
    record {
      given = rw total small;
      shares = shares_bounded (cost_in c.args.direct.now c.from-from.result.now) c.deref-2.result.now c.in_ok-shares.shares.items (10 ^ 19) small shares;
      rising = subst IsRising (sym groups) (receivers_rising c.args.direct.now c.args.rules.now c.args.rule.now.give c.requires.rising c.requires.in_limits.give);
    }
