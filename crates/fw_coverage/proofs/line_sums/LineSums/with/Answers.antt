use Rattle.std.proofs.Common.{rules, ◌≡◌, ◌∙◌, ◌+ℤ◌, ◌||◌, refl}
use Rattle.std.proofs.lemmas.Int.{to_z-of_z}
use mir.Val.{SFits}
use mir.Syntax.{w128}
use Rattle.fw_coverage.specs.Tallies.{with_sums}
use Rattle.fw_coverage.proofs.line_sums.LineSums.with.Goals as goal

pub returns : goal.returns
unfolding with_sums
returns c =
    let a = c.args.self in
    let b = c.args.more in
    let a_used : SFits w128 a.used = search rules in
    let b_used : SFits w128 b.used = search rules in
    let a_unused : SFits w128 a.unused = search rules in
    let b_unused : SFits w128 b.unused = search rules in
    let a_paid : SFits w128 a.paid = search rules in
    let b_paid : SFits w128 b.paid = search rules in
    let used : SFits w128 c.in_ok-sum.field-0 = search rules in
    let unused : SFits w128 c.in_ok-sum-2.field-0 = search rules in
    let paid : SFits w128 c.in_ok-sum-3.field-0 = search rules in
    let shown : (a.shown || b.shown) ≡ (a.shown || b.shown) = refl in
    λ j. record {
      shown = shown j;
      used = (to_z-of_z w128 _ used ∙ c.in_ok-sum.ensures ∙ (λ k. to_z-of_z w128 _ a_used k +ℤ to_z-of_z w128 _ b_used k)) j;
      unused = (to_z-of_z w128 _ unused ∙ c.in_ok-sum-2.ensures ∙ (λ k. to_z-of_z w128 _ a_unused k +ℤ to_z-of_z w128 _ b_unused k)) j;
      paid = (to_z-of_z w128 _ paid ∙ c.in_ok-sum-3.ensures ∙ (λ k. to_z-of_z w128 _ a_paid k +ℤ to_z-of_z w128 _ b_paid k)) j;
    }
