use Rattle.std.proofs.Common.{◌≡◌, ◌∙◌, ◌+◌, Bool, Some, if◌then◌else◌, sym, ap, take}
use Rattle.fw_views.specs.Policies.{policy_place}
use Rattle.fw_views.proofs.PolicyFacts.{place_next, place_none}
use Rattle.fw_views.proofs.policies.applied_policy.Goals.{then-sets_policy, else-sets_policy}
use Rattle.fw_views.proofs.policies.applied_policy.Goals as goal

pub loop-place-init : goal.loop-place-init
loop-place-init c = sym place_none

pub loop-place-preserved : goal.loop-place-preserved
loop-place-preserved c =
    let es = c.args.state.now.entries in
    let place = c.loop-place.place in
    let next = place_next es place c.head.result.now c.sets_policy.result c.head.ensures c.sets_policy.ensures in
    elim c.if-sets_policy.branch [
      | then-sets_policy w ↦ w.found-is ∙ sym (next ∙ ap (λ (b : Bool). if b then Some place else policy_place (take place es)) w.if-sets_policy.true)
      | else-sets_policy w ↦ w.found-is ∙ (c.loop-place.invariant ∙ sym (next ∙ ap (λ (b : Bool). if b then Some place else policy_place (take place es)) w.if-sets_policy.false))
    ]
