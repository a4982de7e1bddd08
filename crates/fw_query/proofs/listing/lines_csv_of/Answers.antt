use Rattle.std.proofs.Common.{◌≡◌, ◌∙◌, [], ◌++◌, Some, ap, arith, false, get_or, length, map, replicate, true}
use Rattle.std.specs.List.{range_with_len}
use Rattle.std.proofs.lemmas.List.{get_or-replicate, length-replicate}
use Rattle.fw_amortise.specs.Lines.{rows_in}
use Rattle.fw_sums.specs.Hours.{all_rows, lent, rows_marked, rows_of_list}
use Rattle.fw_query.specs.Listing.{WritesHours}
use Rattle.fw_query.specs.Texts.{line_header, record_line}
use Rattle.fw_query.specs.Writers.{HasWritten}
use Rattle.fw_sums.proofs.HourFacts.{by_hour_long}
use Rattle.fw_query.proofs.ListingFacts.{listing_of}
use Rattle.fw_sums.proofs.MarkFacts.{every_hour}
use Rattle.fw_query.proofs.listing.lines_csv_of.Goals as goal

pub write_hours-requires-clause-fits : goal.write_hours-requires-clause-fits
write_hours-requires-clause-fits c =
    let many : length c.as_slice.result.now ≡ c.args.hours = ap length (c.as_slice.ensures.value ∙ c.in_ok-every.ensures) ∙ length-replicate c.args.hours true in
    let long : length c.in_ok-by_hour.by_hour.items ≡ c.args.hours = by_hour_long _ _ _ _ _ c.in_ok-by_hour.ensures ∙ many in
    rw (c.as_slice-2.ensures.value, long) c.requires

pub write_hours-requires-clause-roster : goal.write_hours-requires-clause-roster
write_hours-requires-clause-roster c =
    let many : length c.as_slice.result.now ≡ c.args.hours = ap length (c.as_slice.ensures.value ∙ c.in_ok-every.ensures) ∙ length-replicate c.args.hours true in
    let long : length c.in_ok-by_hour.by_hour.items ≡ c.args.hours = by_hour_long _ _ _ _ _ c.in_ok-by_hour.ensures ∙ many in
    rw (c.in_ok-roster.ensures, c.as_slice-2.ensures.value, long) (record { since = omega arith; until = omega arith })

pub write_hours-requires-clause-by_hour : goal.write_hours-requires-clause-by_hour
write_hours-requires-clause-by_hour c =
    let long : length c.in_ok-by_hour.by_hour.items ≡ length c.as_slice.result.now = by_hour_long _ _ _ _ _ c.in_ok-by_hour.ensures in
    (rows_marked c.as_slice.result.now c.args.from (all_rows (lent c.args.segments.now)), rw (c.as_slice-2.ensures.value, long) c.in_ok-by_hour.ensures)

pub returns-in-Ok : goal.returns-in-Ok
returns-in-Ok c =
    let items : c.as_slice.result.now ≡ replicate c.args.hours true = c.as_slice.ensures.value ∙ c.in_ok-every.ensures in
    let rows = all_rows (lent c.args.segments.now) in
    let each : map (rows_of_list (lent c.args.segments.now)) c.in_ok-by_hour.by_hour.items ≡ map (λ h. rows_in h rows) (range_with_len c.args.from c.args.hours) =
    c.in_ok-by_hour.ensures.each
    ∙ ap (λ n. map (λ h. rows_in h (rows_marked c.as_slice.result.now c.args.from rows)) (range_with_len c.args.from n)) (ap length items ∙ length-replicate c.args.hours true)
    ∙ every_hour rows c.args.from c.args.hours c.as_slice.result.now (λ k below. ap (λ l. get_or l k false) items ∙ get_or-replicate c.args.hours k true false below) in
    let made = c.from_writer-writer.ensures in
    let start : HasWritten c.from_writer-writer.result [] = record {
      setup = made.cfg ∙ c.new-2.ensures;
      fields = made.fields;
      wrote = made.wrote;
      text_is = λ j. Some ((ap (λ v. v.items) made.wtr ∙ c.new-3.ensures.items) j ++ made.empty j);
    } in
    let done : WritesHours c.write_hours.new.writer (record_line line_header) c.args.commitments.now (map (rows_of_list (lent c.args.segments.now)) c.in_ok-by_hour.by_hour.items) c.args.from =
    rw (c.in_ok-roster.ensures, c.as_slice-2.ensures.value) at (c.in_ok-write_hours.ensures _ (c.in_ok-write_names.ensures [] start)) in
    listing_of _ c.in-Ok.text _ rows _ _ c.args.hours done each c.in-Ok.ensures.ok
