use Rattle.std.proofs.Common.{◌≡◌, ◌∙◌, ◌-◌, ◌<◌, All, ap, arith, false, get_or, length, replicate, true}
use Rattle.std.proofs.lemmas.List.{get_or-replicate, length-replicate}
use Rattle.fw_amortise.specs.Lines.{rows_in}
use Rattle.fw_charge.specs.Charge.{Charge, hour_of}
use Rattle.fw_sums.specs.Hours.{AreByHour, all_rows, lent, rows_at, rows_marked}
use Rattle.fw_sums.proofs.HourFacts.{by_hour_long}
use Rattle.fw_sums.proofs.TurnFacts.{all_in_turn, of_turn}
use Rattle.fw_allocated.proofs.hour.exports_at.Goals as goal

pub exports_of_hour-requires-clause-rows : goal.exports_of_hour-requires-clause-rows
exports_of_hour-requires-clause-rows c =
    let segments = lent c.args.segments.now in
    let marked = rows_marked c.as_slice.result.now c.args.hour (all_rows segments) in
    let by_hour = c.in_ok-by_hour.by_hour.items in
    let marks : c.as_slice.result.now ≡ replicate 1 true = c.as_slice.ensures.value ∙ c.in_ok-every.ensures in
    let one : length c.as_slice.result.now ≡ 1 = ap length marks ∙ length-replicate 1 true in
    let long : length by_hour ≡ length c.as_slice.result.now = by_hour_long segments marked by_hour c.args.hour (length c.as_slice.result.now) c.in_ok-by_hour.ensures in
    let by : AreByHour segments marked c.args.hour (length by_hour) by_hour = rw long c.in_ok-by_hour.ensures in
    let below : 0 < length by_hour = omega arith in
    let of : All (λ (r : Charge). hour_of r.start ≡ c.args.hour) (rows_at segments c.as_slice-2.result.now) =
    of_turn segments marked by_hour c.args.hour 0 c.index.result.now c.as_slice-2.result.now by below c.index.ensures c.as_slice-2.ensures.value c.args.hour (omega arith) in
    rw (c.as_slice-3.ensures.value, c.in_ok-rows.ensures) of

pub returns : goal.returns
returns c =
    let segments = lent c.args.segments.now in
    let marked = rows_marked c.as_slice.result.now c.args.hour (all_rows segments) in
    let by_hour = c.in_ok-by_hour.by_hour.items in
    let marks : c.as_slice.result.now ≡ replicate 1 true = c.as_slice.ensures.value ∙ c.in_ok-every.ensures in
    let one : length c.as_slice.result.now ≡ 1 = ap length marks ∙ length-replicate 1 true in
    let long : length by_hour ≡ length c.as_slice.result.now = by_hour_long segments marked by_hour c.args.hour (length c.as_slice.result.now) c.in_ok-by_hour.ensures in
    let by : AreByHour segments marked c.args.hour (length by_hour) by_hour = rw long c.in_ok-by_hour.ensures in
    let below : 0 < length by_hour = omega arith in
    let is_marked : get_or c.as_slice.result.now (c.args.hour - c.args.hour) false ≡ true =
    ap (λ l. get_or l (c.args.hour - c.args.hour) false) marks ∙ get_or-replicate 1 (c.args.hour - c.args.hour) true false (omega arith) in
    let rows : c.as_slice-3.result.now ≡ rows_in c.args.hour (all_rows segments) =
    c.as_slice-3.ensures.value ∙ c.in_ok-rows.ensures
    ∙ all_in_turn segments (all_rows segments) c.as_slice.result.now by_hour c.args.hour 0 c.index.result.now c.as_slice-2.result.now by below c.index.ensures c.as_slice-2.ensures.value c.args.hour (omega arith) is_marked in
    rw (rows, c.in_ok-roster.ensures) at c.exports_of_hour.ensures
