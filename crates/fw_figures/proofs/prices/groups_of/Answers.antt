use Rattle.std.proofs.Common.{◌≡◌, ◌∙◌, ap, arith, false, get_or, length, map, replicate, subst, true}
use Rattle.std.specs.List.{range_with_len}
use Rattle.std.proofs.lemmas.List.{get_or-replicate, length-replicate}
use Rattle.fw_amortise.specs.Lines.{rows_in}
use Rattle.fw_sums.specs.Hours.{all_rows, lent, rows_marked, rows_of_list}
use Rattle.fw_sums.proofs.HourFacts.{by_hour_long}
use Rattle.fw_sums.proofs.MarkFacts.{every_hour}
use Rattle.fw_select.specs.Selectors.{costs_of}
use Rattle.fw_figures.specs.Prices.{AreLinesByHour, AreCounted, HasCounted}
use Rattle.fw_figures.proofs.prices.groups_of.Goals as goal

pub add_hours-requires-clause-fits : goal.add_hours-requires-clause-fits
add_hours-requires-clause-fits c =
    let many : length c.as_slice.result.now ≡ c.args.hours = ap length (c.as_slice.ensures.value ∙ c.in_ok-every.ensures) ∙ length-replicate c.args.hours true in
    let long : length c.in_ok-by_hour.by_hour.items ≡ c.args.hours = by_hour_long _ _ _ _ _ c.in_ok-by_hour.ensures ∙ many in
    rw (c.as_slice-2.ensures.value, long) c.requires

pub add_hours-requires-clause-roster : goal.add_hours-requires-clause-roster
add_hours-requires-clause-roster c =
    let many : length c.as_slice.result.now ≡ c.args.hours = ap length (c.as_slice.ensures.value ∙ c.in_ok-every.ensures) ∙ length-replicate c.args.hours true in
    let long : length c.in_ok-by_hour.by_hour.items ≡ c.args.hours = by_hour_long _ _ _ _ _ c.in_ok-by_hour.ensures ∙ many in
    rw (c.in_ok-roster.ensures, c.as_slice-2.ensures.value, long) (record { since = omega arith; until = omega arith })

pub add_hours-requires-clause-by_hour : goal.add_hours-requires-clause-by_hour
add_hours-requires-clause-by_hour c =
    let long : length c.in_ok-by_hour.by_hour.items ≡ length c.as_slice.result.now = by_hour_long _ _ _ _ _ c.in_ok-by_hour.ensures in
    (rows_marked c.as_slice.result.now c.args.from (all_rows (lent c.args.segments.now)), rw (c.as_slice-2.ensures.value, long) c.in_ok-by_hour.ensures)

pub returns : goal.returns
returns c =
    let items : c.as_slice.result.now ≡ replicate c.args.hours true = c.as_slice.ensures.value ∙ c.in_ok-every.ensures in
    let rows = all_rows (lent c.args.segments.now) in
    let each : map (rows_of_list (lent c.args.segments.now)) c.in_ok-by_hour.by_hour.items ≡ map (λ h. rows_in h rows) (range_with_len c.args.from c.args.hours) =
    c.in_ok-by_hour.ensures.each
    ∙ ap (λ n. map (λ h. rows_in h (rows_marked c.as_slice.result.now c.args.from rows)) (range_with_len c.args.from n)) (ap length items ∙ length-replicate c.args.hours true)
    ∙ every_hour rows c.args.from c.args.hours c.as_slice.result.now (λ k below. ap (λ l. get_or l k false) items ∙ get_or-replicate c.args.hours k true false below) in
    let done : HasCounted c.add_hours.new.counter c.args.selector.now (AreCounted c.args.counted c.args.commitments.now) c.args.from (map (rows_of_list (lent c.args.segments.now)) c.in_ok-by_hour.by_hour.items) =
    rw (c.in_ok-roster.ensures, c.as_slice-2.ensures.value) at c.in_ok-add_hours.ensures in
    record {
      lines = done.lines;
      are_lines = subst (λ by_hour. AreLinesByHour (AreCounted c.args.counted c.args.commitments.now) c.args.from by_hour done.lines) each done.are_lines;
      are_totals = c.in_ok-into_groups.ensures (costs_of c.args.selector.now done.lines) done.sums;
    }
