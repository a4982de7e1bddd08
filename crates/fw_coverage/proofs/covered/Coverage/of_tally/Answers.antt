use Rattle.std.proofs.Common.{rules, ◌∙◌, ap}
use Rattle.std.proofs.lemmas.Int.{to_z-of_z}
use mir.Val.{SFits}
use mir.Syntax.{w128}
use Rattle.fw_coverage.specs.Tallies.{coverage_from}
use Rattle.fw_coverage.proofs.covered.Coverage.of_tally.Goals as goal

pub returns : goal.returns
unfolding coverage_from
returns c =
    let inside = c.tally.inside in
    let used : SFits w128 inside.sums.used = search rules in
    let unused : SFits w128 inside.sums.unused = search rules in
    let paid : SFits w128 inside.sums.paid = search rules in
    (λ j. record {
      commitment = inside.commitment.now;
      capacity = inside.capacity;
      used = c.saturating_sub.ensures j;
      unused = inside.unused;
      used_cost = to_z-of_z w128 inside.sums.used used j;
      unused_cost = to_z-of_z w128 inside.sums.unused unused j;
      paid = to_z-of_z w128 inside.sums.paid paid j;
    })
    ∙ ap coverage_from c.tally.view_is
