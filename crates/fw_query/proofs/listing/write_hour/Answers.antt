use Rattle.std.proofs.Common.{◌≡◌, ◌∙◌, ◌++◌, Bor, List, ℕ, ap, map, sym}
use Rattle.std.proofs.lemmas.Result.{IfOk-weaker}
use Rattle.fw_charge.specs.Charge.{Charge}
use Rattle.fw_sums.specs.Hours.{is_touched}
use Rattle.fw_query.specs.Listing.{WritesHour, records}
use Rattle.fw_query.specs.Writers.{HasWritten}
use Rattle.fw_query.proofs.ListingFacts.{no_lines}
use Rattle.fw_query.proofs.listing.write_hour.Goals as goal

pub returns-in_default : goal.returns-in_default
returns-in_default c = λ text has. no_lines c.args.writer.now text c.args.roster.now.commitments c.args.rows.now c.args.hour c.in_default.ensures.0 (ap (λ cs. is_touched cs c.args.hour) (sym c.commitments.ensures) ∙ c.in_default.ensures.1) has

pub lines_by_roster-requires-clause-hour : goal.lines_by_roster-requires-clause-hour
lines_by_roster-requires-clause-hour c = rw c.in-Some.ensures c.requires.hour

pub lines_by_roster-requires-clause-rows : goal.lines_by_roster-requires-clause-rows
lines_by_roster-requires-clause-rows c =
    let rows : map (λ (r : Bor Charge). r.now) c.as_slice.result.now ≡ c.args.rows.now = ap (map (λ (r : Bor Charge). r.now)) c.as_slice.ensures.value ∙ c.in_ok-rows.ensures in
    rw (rows, c.in-Some.ensures) c.requires.rows

pub returns : goal.returns
returns c =
    let rows : map (λ (r : Bor Charge). r.now) c.as_slice.result.now ≡ c.args.rows.now = ap (map (λ (r : Bor Charge). r.now)) c.as_slice.ensures.value ∙ c.in_ok-rows.ensures in
    IfOk-weaker c.write_lines.result
    (λ _. (text : List ℕ) → HasWritten c.args.writer.now text → HasWritten c.write_lines.new.writer (text ++ records c.as_slice-2.result.now))
    (λ _. (text : List ℕ) → HasWritten c.args.writer.now text → WritesHour c.write_lines.new.writer text c.args.roster.now.commitments c.args.rows.now c.args.hour)
    (λ _ wrote text has. record {
      lines = c.in_ok-lines.lines.items;
      are_lines = rw (rows, c.in-Some.ensures) at c.in_ok-lines.ensures;
      wrote = rw c.as_slice-2.ensures.value at (wrote text has);
    })
    c.write_lines.ensures
