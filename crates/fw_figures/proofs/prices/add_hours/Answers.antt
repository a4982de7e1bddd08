use Rattle.std.proofs.Common.{◌≡◌, ◌∙◌, ◌+◌, ◌++◌, ◌∷◌, [], All, ap, length, map, refl, sym, take, arith}
use Rattle.std.proofs.lemmas.List.{length-map, length-take-le, map_more, take_all}
use Rattle.fw_charge.specs.Charge.{Charge, hour_of}
use Rattle.fw_sums.specs.Hours.{lent, rows_at, rows_of_list}
use Rattle.fw_sums.proofs.HourFacts.{has_hour}
use Rattle.fw_sums.proofs.TurnFacts.{of_turn, there_in_turn}
use Rattle.fw_figures.specs.Prices.{AreCounted, CountsHour}
use Rattle.fw_figures.proofs.PriceFacts.{HasCounted-more}
use Rattle.fw_figures.proofs.prices.add_hours.Goals as goal

pub loop-places-init : goal.loop-places-init
loop-places-init c = record {
  counted = record { lines = []; are_lines = refl; sums = c.requires.empty };
  at = omega arith;
}

pub rows_at-requires : goal.rows_at-requires
rows_at-requires c =
    let (rows, by) = c.requires.by_hour in
    there_in_turn (lent c.args.segments.now) rows c.args.by_hour.now c.args.from c.loop-places.places-index c.places-item.result c.as_slice.result.now by c.loop-places-test.true c.places-item.is c.as_slice.ensures.value

pub add_hour-requires-clause-hour : goal.add_hour-requires-clause-hour
add_hour-requires-clause-hour c = has_hour c.args.roster.now c.args.from _ c.loop-places.places-index c.loop-places.hour c.requires.roster c.loop-places-test.true c.loop-places.invariant.at

pub add_hour-requires-clause-rows : goal.add_hour-requires-clause-rows
add_hour-requires-clause-rows c =
    let (rows, by) = c.requires.by_hour in
    let of : All (λ (r : Charge). hour_of r.start ≡ c.loop-places.hour) (rows_at (lent c.args.segments.now) c.as_slice.result.now) =
    of_turn (lent c.args.segments.now) rows c.args.by_hour.now c.args.from c.loop-places.places-index c.places-item.result c.as_slice.result.now by c.loop-places-test.true c.places-item.is c.as_slice.ensures.value c.loop-places.hour c.loop-places.invariant.at in
    rw (c.as_slice-in-loop-places.ensures.value, c.in_ok-rows.ensures) of

pub loop-places-preserved : goal.loop-places-preserved
loop-places-preserved c =
    let kept = c.loop-places.invariant in
    let found = rows_of_list (lent c.args.segments.now) in
    let long : length (map found (take c.loop-places.places-index c.args.by_hour.now)) ≡ c.loop-places.places-index =
    length-map (take c.loop-places.places-index c.args.by_hour.now) found ∙ length-take-le c.loop-places.places-index c.args.by_hour.now (omega arith) in
    let more : map found (take (c.loop-places.places-index + 1) c.args.by_hour.now) ≡ map found (take c.loop-places.places-index c.args.by_hour.now) ++ found c.places-item.result ∷ [] =
    map_more found c.args.by_hour.now c.loop-places.places-index c.places-item.result c.loop-places-test.true
    ∙ ap (λ v. map found (take c.loop-places.places-index c.args.by_hour.now) ++ found v ∷ []) (sym c.places-item.is) in
    let rows : c.as_slice-in-loop-places.result.now ≡ found c.places-item.result =
    c.as_slice-in-loop-places.ensures.value ∙ c.in_ok-rows.ensures ∙ ap (rows_at (lent c.args.segments.now)) c.as_slice.ensures.value in
    let added : CountsHour c.add_hour.new.counter kept.counted.lines c.args.selector.now (AreCounted c.args.counted c.args.roster.now.commitments) (found c.places-item.result) c.loop-places.hour =
    rw rows at (c.in_ok-add_hour.ensures kept.counted.lines kept.counted.sums) in
    record {
      counted = rw more (HasCounted-more _ c.add_hour.new.counter c.args.selector.now (AreCounted c.args.counted c.args.roster.now.commitments) c.args.from c.loop-places.hour _ (found c.places-item.result) (kept.at ∙ ap (λ n. c.args.from + n) (sym long)) kept.counted added);
      at = let h = kept.at in omega arith;
    }

pub returns : goal.returns
returns c = rw (take_all c.loop-places.places-index c.args.by_hour.now (omega arith)) at c.loop-places.invariant.counted
