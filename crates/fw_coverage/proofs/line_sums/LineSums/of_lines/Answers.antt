use Rattle.std.proofs.Common.{◌∙◌, ◌∷◌, [], sym}
use Rattle.fw_coverage.specs.Tallies.{line_sums, with_sums}
use Rattle.fw_coverage.proofs.LineSumFacts.{line_sums-more, no_lines_carry}
use Rattle.fw_coverage.proofs.line_sums.LineSums.of_lines.Goals as goal

pub loop-line-init : goal.loop-line-init
loop-line-init c = c.none-sums.ensures ∙ sym (no_lines_carry c.args.id.now)

pub loop-line-preserved : goal.loop-line-preserved
loop-line-preserved c =
    c.in_ok-sums.ensures
    ∙ (λ j. with_sums (c.loop-line.invariant j) (line_sums c.args.id.now (c.line-item.is j ∷ [])))
    ∙ sym (line_sums-more c.args.id.now c.args.lines.now c.loop-line.line-index c.line-item.result c.loop-line-test.true)
