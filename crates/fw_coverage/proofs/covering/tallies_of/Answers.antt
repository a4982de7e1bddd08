use Rattle.std.proofs.Common.{◌≡◌, ◌+◌, ◌-◌, MatchBool, arith, false, get_or, length}
use Rattle.fw_amortise.specs.Lines.{rows_in}
use Rattle.fw_sums.specs.Hours.{all_rows, lent, rows_at, rows_marked}
use Rattle.fw_coverage.specs.Tallies.{AreAfter}
use Rattle.fw_sums.proofs.HourFacts.{has_hour}
use Rattle.fw_sums.proofs.TurnFacts.{of_turn, rows_in_turn, there_in_turn}
use Rattle.fw_coverage.proofs.TallyFacts.{early_in_turn, next_tallies, no_tallies_yet, placed}
use Rattle.fw_coverage.proofs.covering.tallies_of.Goals as goal

pub loop-places-init : goal.loop-places-init
loop-places-init c = record {
  tallies = no_tallies_yet c.args.roster.now.commitments (all_rows (lent c.args.segments.now)) c.args.from c.in_ok-tallies.tallies.items (rw c.requires.same at c.in_ok-tallies.ensures);
  at = omega arith;
}

pub with_places-requires-clause-placed : goal.with_places-requires-clause-placed
with_places-requires-clause-placed c = placed c.args.roster.now.commitments (all_rows (lent c.args.segments.now)) c.args.from c.loop-places.places-index c.loop-places.tallies.items c.loop-places.invariant.tallies

pub with_places-requires-clause-hour : goal.with_places-requires-clause-hour
with_places-requires-clause-hour c = has_hour c.args.roster.now c.args.from _ c.loop-places.places-index c.loop-places.hour c.requires.roster c.loop-places-test.true c.loop-places.invariant.at

pub with_places-requires-clause-there : goal.with_places-requires-clause-there
with_places-requires-clause-there c =
    there_in_turn (lent c.args.segments.now) (rows_marked c.args.touched.now c.args.from (all_rows (lent c.args.segments.now))) c.args.by_hour.now c.args.from c.loop-places.places-index c.places-item.result c.as_slice.result.now c.requires.by_hour c.loop-places-test.true c.places-item.is c.as_slice.ensures.value

pub with_places-requires-clause-of_hour : goal.with_places-requires-clause-of_hour
with_places-requires-clause-of_hour c =
    of_turn (lent c.args.segments.now) (rows_marked c.args.touched.now c.args.from (all_rows (lent c.args.segments.now))) c.args.by_hour.now c.args.from c.loop-places.places-index c.places-item.result c.as_slice.result.now c.requires.by_hour c.loop-places-test.true c.places-item.is c.as_slice.ensures.value
    c.loop-places.hour c.loop-places.invariant.at

pub with_places-requires-clause-early : goal.with_places-requires-clause-early
with_places-requires-clause-early c = early_in_turn c.args.roster.now.commitments c.args.from (length c.args.by_hour.now) c.loop-places.hour c.loop-places.places-index c.args.touched.now c.requires.touched c.loop-places.invariant.at

pub loop-places-preserved : goal.loop-places-preserved
loop-places-preserved c =
    let kept = c.loop-places.invariant in
    let i = c.loop-places.places-index in
    let segments = lent c.args.segments.now in
    let rows = all_rows segments in
    let cs = c.args.roster.now.commitments in
    let place : c.loop-places.hour - c.args.from ≡ i = (let at = kept.at in omega (arith, at)) in
    let here : rows_at segments c.as_slice.result.now ≡ rows_in (c.args.from + i) (rows_marked c.args.touched.now c.args.from rows) =
    rows_in_turn segments (rows_marked c.args.touched.now c.args.from rows) c.args.by_hour.now c.args.from i c.places-item.result c.as_slice.result.now c.requires.by_hour c.loop-places-test.true c.places-item.is c.as_slice.ensures.value in
    let step : MatchBool (get_or c.args.touched.now i false) (AreAfter cs (rows_in (c.args.from + i) (rows_marked c.args.touched.now c.args.from rows)) (c.args.from + i) c.loop-places.tallies.items c.in_ok-tallies-2.tallies.items) (c.in_ok-tallies-2.tallies.items ≡ c.loop-places.tallies.items) =
    rw (here, place, kept.at) at c.in_ok-tallies-2.ensures in
    record {
      tallies = next_tallies cs rows c.args.touched.now c.args.from (length c.args.by_hour.now) i c.loop-places.tallies.items c.in_ok-tallies-2.tallies.items c.loop-places-test.true c.requires.touched c.requires.apart kept.tallies step;
      at = let h = kept.at in omega arith;
    }

pub returns : goal.returns
returns c =
    let end : c.loop-places.places-index ≡ length c.args.by_hour.now = omega arith in
    rw end at c.loop-places.invariant.tallies
