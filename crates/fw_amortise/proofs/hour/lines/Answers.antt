use Rattle.std.proofs.Common.{◌≡◌, ◌∙◌, map, ap}
use Rattle.fw_amortise.specs.Lines.{AreLines, rows_in}
use Rattle.fw_amortise.proofs.EachLine.{rows_are_of_hour}
use Rattle.fw_amortise.proofs.hour.lines.Goals as goal

pub lines_of_hour-requires : goal.lines_of_hour-requires
lines_of_hour-requires c =
    let rows : map (λ r. r.now) c.deref.result.now ≡ rows_in c.args.hour c.args.rows.now = ap (map (λ r. r.now)) c.deref.ensures.value ∙ c.in_ok-rows.ensures in
    rw rows (rows_are_of_hour c.args.hour c.args.rows.now)

pub returns : goal.returns
unfolding AreLines
returns c =
    let rows : map (λ r. r.now) c.deref.result.now ≡ rows_in c.args.hour c.args.rows.now = ap (map (λ r. r.now)) c.deref.ensures.value ∙ c.in_ok-rows.ensures in
    rw rows at c.lines_of_hour.ensures
