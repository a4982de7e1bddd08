use Rattle.std.proofs.Common.{◌≡◌, ◌++◌, List, map}
use Rattle.std.proofs.lemmas.Result.{IfOk-weaker}
use Rattle.fw_amortise.specs.Lines.{rows_in}
use Rattle.fw_sums.specs.Costs.{Cost}
use Rattle.fw_sums.specs.ReportCache.{AreOwnSums}
use Rattle.fw_sums.specs.Hours.{all_rows, lent, row_cost, rows_at}
use Rattle.fw_sums.specs.Sums.{Counts, CountsHour}
use Rattle.fw_sums.proofs.CoverFacts.{own_added}
use Rattle.fw_sums.proofs.groups.Groups.add_hour.Goals as goal

pub returns-in-Some-clause-counts : goal.returns-in-Some-clause-counts
returns-in-Some-clause-counts c =
    let cs = c.args.roster.now.commitments in
    let key = c.args.key.now in
    let rows = rows_in c.args.hour (all_rows (lent c.args.segments.now)) in
    let own : AreOwnSums cs rows key c.args.hour c.in-Some.sums.now = rw (← c.in-Some.ensures) at (c.requires.kept c.args.hour) in
    IfOk-weaker c.add_groups.result
    (λ _. (costs more : List Cost) → Counts c.args.self.now costs → Counts c.in-Some.sums.now more → Counts c.add_groups.new.self (costs ++ more))
    (λ _. (costs : List Cost) → Counts c.args.self.now (costs ++ map (row_cost key) rows) → CountsHour c.add_groups.new.self costs key cs rows c.args.hour)
    (λ _ added. own_added c.args.self.now c.add_groups.new.self c.in-Some.sums.now key cs rows c.args.hour own added)
    c.add_groups.ensures

pub returns-clause-counts : goal.returns-clause-counts
returns-clause-counts c =
    let cs = c.args.roster.now.commitments in
    let key = c.args.key.now in
    let rows = rows_in c.args.hour (all_rows (lent c.args.segments.now)) in
    let here : rows_at (lent c.args.segments.now) c.args.places.now ≡ rows = rw (← c.in_default.ensures) at c.requires.rows in
    let own : AreOwnSums cs rows key c.args.hour c.in_ok-sums.sums = rw here at c.in_ok-sums.ensures in
    own_added c.args.self.now c.add_groups-2.new.self c.in_ok-sums.sums key cs rows c.args.hour own c.in_ok-add_groups.ensures
