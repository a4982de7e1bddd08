use Rattle.std.proofs.Common.{◌≡◌, ◌∙◌, ap, arith, get_or, sym}
use Rattle.std.specs.Prelude.{option_copied}
use Rattle.fw_finops.specs.Lines.{counts, first_or, most_usable}
use Rattle.fw_finops.specs.Usable.{usable}
use Rattle.fw_finops.proofs.OpenFacts.{fails_more, first_in, first_more, most_more}
use Rattle.fw_finops.proofs.open.most_of.Goals as goal
use Rattle.fw_finops.proofs.open.most_of.Goals.{then-counts, else-counts}

pub loop-commitment-preserved : goal.loop-commitment-preserved
loop-commitment-preserved c =
    let cs = c.args.commitments.now in
    let i = c.loop-commitment.commitment-index in
    let d = c.commitment-item.result in
    let hour = c.args.hour in
    let row = c.args.row.now in
    let p = counts hour row c.args.is_cost in
    let seen : p (get_or cs i d) ≡ c.counts.result = ap p (sym c.commitment-item.is) ∙ sym c.counts.ensures in
    let was = c.loop-commitment.invariant in
    elim c.if-counts.branch [
      | then-counts w ↦
          let holds = seen ∙ w.if-counts.true in
          let most = most_more hour row p cs i d c.loop-commitment-test.true holds in
          let found = w.usable.ensures.value in
          let greater = w.greater_of-most.ensures in
          record {
            first = ap option_copied w.first-is ∙ w.first_of-first.ensures ∙ ap (λ f. first_or f d) was.first ∙ ap (first_or _) c.commitment-item.is ∙ sym (first_more p cs i d c.loop-commitment-test.true holds);
            most = let at = ap (usable hour row) c.commitment-item.is in omega (arith, w.most-is, greater, found, at, was.most, most);
            within = let small = w.usable.ensures.within in omega (arith, w.most-is, greater, small, was.within);
          }
      | else-counts w ↦
          let same = fails_more p cs i d c.loop-commitment-test.true (seen ∙ w.if-counts.false) in
          record {
            first = ap option_copied w.first-is ∙ was.first ∙ ap first_in (sym same);
            most = w.most-is ∙ was.most ∙ ap (most_usable hour row) (sym same);
            within = omega (arith, w.most-is, was.within);
          }
    ]
