use Rattle.std.proofs.Common.{◌≡◌, ◌∙◌, ap, false, sym}
use Rattle.fw_sums.specs.Hours.{is_touched, lent, rows_at}
use Rattle.fw_select.proofs.CountFacts.{counts_plain}
use Rattle.fw_select.proofs.walk.add_hour.Goals as goal

pub returns-clause-counts : goal.returns-clause-counts
returns-clause-counts c =
    let cs = c.args.roster.now.commitments in
    let untouched : is_touched cs c.args.hour ≡ false = ap (λ them. is_touched them c.args.hour) (sym c.commitments.ensures) ∙ sym c.is_touched.ensures.touched ∙ c.if-is_touched.false in
    λ before sums.
    counts_plain c.add_places.new.self.table before c.args.selector.now cs (rows_at (lent c.args.segments.now) c.args.places.now) c.args.hour untouched (c.in_ok-add_places.ensures.sums before sums)
