use Rattle.std.proofs.Common.{◌≡◌, ◌∙◌, ◌+◌, ap, arith, length, sym}
use Rattle.std.proofs.lemmas.Result.{IfOk-weaker}
use Rattle.std.specs.Prelude.{filter, map}
use Rattle.fw_coverage.specs.Coverage.{IsCoverage}
use Rattle.fw_coverage.specs.Tallies.{coverage_from}
use Rattle.fw_sums.specs.Hours.{all_rows, lent}
use Rattle.fw_sums.proofs.HourFacts.{by_hour_long}
use Rattle.fw_sums.proofs.MarkFacts.{touched_long}
use Rattle.fw_coverage.proofs.TallyFacts.{coverage_is}
use Rattle.fw_coverage.proofs.covering.coverage_of.Goals as goal

pub tallies_of-requires-clause-fits : goal.tallies_of-requires-clause-fits
tallies_of-requires-clause-fits c =
    let many : length c.in_ok-by_hour.by_hour.items ≡ c.args.hours = by_hour_long _ _ _ _ _ c.in_ok-by_hour.ensures ∙ ap length c.as_slice.ensures.value ∙ touched_long _ _ _ _ c.in_ok-touched.ensures in
    rw (c.as_slice-2.ensures.value, many) c.requires.fits

pub tallies_of-requires-clause-same : goal.tallies_of-requires-clause-same
tallies_of-requires-clause-same c = rw c.in_ok-roster.ensures c.requires.same

pub tallies_of-requires-clause-roster : goal.tallies_of-requires-clause-roster
tallies_of-requires-clause-roster c =
    let many : length c.in_ok-by_hour.by_hour.items ≡ c.args.hours = by_hour_long _ _ _ _ _ c.in_ok-by_hour.ensures ∙ ap length c.as_slice.ensures.value ∙ touched_long _ _ _ _ c.in_ok-touched.ensures in
    rw (c.in_ok-roster.ensures, c.as_slice-2.ensures.value, many) (record { since = omega arith; until = omega arith })

pub tallies_of-requires-clause-many : goal.tallies_of-requires-clause-many
tallies_of-requires-clause-many c =
    let many : length c.in_ok-by_hour.by_hour.items ≡ c.args.hours = by_hour_long _ _ _ _ _ c.in_ok-by_hour.ensures ∙ ap length c.as_slice.ensures.value ∙ touched_long _ _ _ _ c.in_ok-touched.ensures in
    rw (c.as_slice-2.ensures.value, c.as_slice-3.ensures.value) (touched_long _ _ _ _ c.in_ok-touched.ensures ∙ sym many)

pub tallies_of-requires-clause-touched : goal.tallies_of-requires-clause-touched
tallies_of-requires-clause-touched c =
    let many : length c.in_ok-by_hour.by_hour.items ≡ c.args.hours = by_hour_long _ _ _ _ _ c.in_ok-by_hour.ensures ∙ ap length c.as_slice.ensures.value ∙ touched_long _ _ _ _ c.in_ok-touched.ensures in
    rw (c.in_ok-roster.ensures, c.as_slice-2.ensures.value, c.as_slice-3.ensures.value, many) c.in_ok-touched.ensures

pub tallies_of-requires-clause-by_hour : goal.tallies_of-requires-clause-by_hour
tallies_of-requires-clause-by_hour c =
    let many : length c.in_ok-by_hour.by_hour.items ≡ length c.in_ok-touched.touched.items = by_hour_long _ _ _ _ _ c.in_ok-by_hour.ensures ∙ ap length c.as_slice.ensures.value in
    rw (c.as_slice-2.ensures.value, c.as_slice-3.ensures.value, many) (rw c.as_slice.ensures.value at c.in_ok-by_hour.ensures)

pub tallies_of-requires-clause-apart : goal.tallies_of-requires-clause-apart
tallies_of-requires-clause-apart c = rw c.in_ok-roster.ensures c.requires.apart

pub returns : goal.returns
returns c =
    let many : length c.in_ok-by_hour.by_hour.items ≡ c.args.hours = by_hour_long _ _ _ _ _ c.in_ok-by_hour.ensures ∙ ap length c.as_slice.ensures.value ∙ touched_long _ _ _ _ c.in_ok-touched.ensures in
    let rows = all_rows (lent c.args.segments.now) in
    let tallies = rw (c.in_ok-roster.ensures, c.as_slice-2.ensures.value, many) at c.in_ok-tallies.ensures in
    IfOk-weaker c.coverage_from.result
    (λ found. found.items ≡ map coverage_from (filter (λ t. t.sums.shown) c.as_slice-4.result.now))
    (λ found. IsCoverage c.args.listed.now rows c.args.from (c.args.from + c.args.hours) found.items)
    (λ found is. coverage_is c.args.listed.now rows c.args.from c.args.hours c.in_ok-tallies.tallies.items found.items tallies (is ∙ ap (λ ts. map coverage_from (filter (λ t. t.sums.shown) ts)) c.as_slice-4.ensures.value))
    c.coverage_from.ensures
