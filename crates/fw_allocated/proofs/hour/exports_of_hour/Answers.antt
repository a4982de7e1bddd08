use Rattle.std.proofs.Common.{◌≡◌, ◌∙◌, Bor, List, [], ℕ, ap, false, map, refl, subst, sym}
use Rattle.std.proofs.lemmas.List.{length-map}
use Rattle.std.proofs.lemmas.Result.{IfOk-weaker}
use Rattle.fw_charge.specs.Charge.{Charge}
use Rattle.fw_cover.specs.Hour.{hour_cover, quantity_of}
use Rattle.fw_amortise.specs.Lines.{AreHourLines, given_lines, rest_lines}
use Rattle.fw_sums.specs.Hours.{is_touched}
use Rattle.fw_sums.proofs.UntouchedFacts.{are_plain, plain_lines}
use Rattle.fw_terms.specs.Commitment.{CommitmentValue}
use Rattle.fw_allocated.specs.LineRows.{AreHourExports, exported_lines, line_rows}
use Rattle.fw_allocated.proofs.hour.exports_of_hour.Goals as goal

no_plain : (hour : ℕ) → plain_lines [] hour ≡ []
unfolding given_lines rest_lines
no_plain hour = refl

-- an hour without rows in which no commitment has a line exports nothing
no_exports : (cs : List CommitmentValue) (rows : List Charge) (hour : ℕ) → rows ≡ [] → is_touched cs hour ≡ false → AreHourExports cs rows hour []
no_exports cs rows hour none untouched =
    let plain : plain_lines rows hour ≡ [] = ap (λ r. plain_lines r hour) none ∙ no_plain hour in
    record { lines = []; are_lines = subst (AreHourLines cs rows hour) plain (are_plain cs rows hour untouched); exports_are = refl }

pub returns-in_default : goal.returns-in_default
returns-in_default c =
    rw (← c.new.ensures.items) at (no_exports c.args.roster.now.commitments c.args.rows.now c.args.hour c.in_default.ensures.0 (ap (λ cs. is_touched cs c.args.hour) (sym c.commitments.ensures) ∙ c.in_default.ensures.1))

pub lines_by_roster-requires-clause-hour : goal.lines_by_roster-requires-clause-hour
lines_by_roster-requires-clause-hour c = rw c.in-Some.ensures c.requires.hour

pub lines_by_roster-requires-clause-rows : goal.lines_by_roster-requires-clause-rows
lines_by_roster-requires-clause-rows c =
    let rows : map (λ (r : Bor Charge). r.now) c.as_slice-rows.result.now ≡ c.args.rows.now = ap (map (λ (r : Bor Charge). r.now)) c.as_slice-rows.ensures.value ∙ c.in_ok-rows.ensures in
    rw (rows, c.in-Some.ensures) c.requires.rows

pub cover-requires : goal.cover-requires
cover-requires c = rw c.in-Some.ensures c.requires.hour

pub exports_of_lines-requires-clause-one_each : goal.exports_of_lines-requires-clause-one_each
exports_of_lines-requires-clause-one_each c =
    let rows = map (λ (r : Bor Charge). r.now) c.as_slice-rows.result.now in
    c.in_ok-cover.ensures.one_each ∙ length-map rows quantity_of ∙ length-map c.as_slice-rows.result.now (λ (r : Bor Charge). r.now)

pub exports_of_lines-requires-clause-left : goal.exports_of_lines-requires-clause-left
exports_of_lines-requires-clause-left c = c.in_ok-cover.ensures.row_left

pub returns : goal.returns
returns c =
    let found = map (λ (r : Bor Charge). r.now) c.as_slice-rows.result.now in
    let cs = c.args.roster.now.commitments in
    let lines = c.in_ok-lines.lines.items in
    let rows : found ≡ c.args.rows.now = ap (map (λ (r : Bor Charge). r.now)) c.as_slice-rows.ensures.value ∙ c.in_ok-rows.ensures in
    IfOk-weaker c.exports_of_lines.result
    (λ e. e.items ≡ exported_lines (line_rows found c.in_ok-cover.cover.taken.items) c.as_slice.result.now)
    (λ e. AreHourExports cs c.args.rows.now c.args.hour e.items)
    (λ e is. record {
      lines = lines;
      are_lines = rw (rows, c.in-Some.ensures) at c.in_ok-lines.ensures;
      exports_are = is ∙ ap (exported_lines (line_rows found c.in_ok-cover.cover.taken.items)) c.as_slice.ensures.value
          ∙ ap (λ t. exported_lines (line_rows found t) lines) c.in_ok-cover.ensures.taken
          ∙ ap (λ r. exported_lines (line_rows r (hour_cover cs r c.in-Some.hour)) lines) rows
          ∙ ap (λ h. exported_lines (line_rows c.args.rows.now (hour_cover cs c.args.rows.now h)) lines) c.in-Some.ensures;
    })
    c.exports_of_lines.ensures
