use Rattle.std.proofs.Common.{arith, sym, ◌∙◌, vec_len, inr}
use Rattle.std.proofs.lemmas.Bool.{eqb-true, eqb-false}
use Rattle.std.proofs.lemmas.List.{length-map}
use Rattle.toml.specs.View.{view}
use Rattle.fw_policy.proofs.TargetFacts.{no_weights, bad_weights, targets_from}
use Rattle.fw_policy.proofs.target.targets_of.Goals as goal
use Rattle.fw_policy.proofs.target.targets_of.Goals.{then-is_empty-via-then-is_empty, then-is_empty-via-else-is_empty+then-len-gt-MOST_TARGETS}

pub returns-in_default : goal.returns-in_default
returns-in_default c = no_weights (view c.args.to.now) (rw c.in_default.is at c.in_ok-weights.ensures)

pub returns-then-is_empty : goal.returns-then-is_empty
returns-then-is_empty c =
    let are = rw c.in-Some.is at c.in_ok-weights.ensures in
    inr (bad_weights (view c.args.to.now) _ are.0 (λ h.
    let some = rw length-map at h.0 in let few = rw length-map at h.1 in
    elim c.then-is_empty.branch [
      | then-is_empty-via-then-is_empty w ↦ let none = eqb-true (vec_len c.in-Some.weights) 0 (sym c.is_empty.ensures ∙ w.if-is_empty.true) in absurd (omega (arith, some))
      | then-is_empty-via-else-is_empty+then-len-gt-MOST_TARGETS w ↦ absurd (omega (arith, few, w.len.ensures))
    ]))

pub returns : goal.returns
returns c =
    let are = rw c.in-Some.is at c.in_ok-weights.ensures in
    let some = eqb-false (vec_len c.in-Some.weights) 0 (sym c.is_empty.ensures ∙ c.if-is_empty.false) in
    targets_from (view c.args.to.now) c.in-Some.weights.items c.all_targets.result are.0 are.1 (omega (arith, some)) (omega (arith, c.len.ensures)) (rw c.deref.ensures.value at c.all_targets.ensures)
