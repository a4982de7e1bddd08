use Rattle.std.proofs.Common.{◌≡◌, ◌∙◌, ◌+◌, ◌++◌, ◌-◌, List, arith, false, get_or, length, map, refl, sym, true}
use Rattle.fw_amortise.specs.Lines.{rows_in}
use Rattle.fw_sums.specs.Costs.{Cost}
use Rattle.fw_sums.specs.Hours.{all_rows, is_touched, lent, row_cost}
use Rattle.fw_sums.specs.Sums.{Counts, CountsHour}
use Rattle.fw_sums.proofs.CountedFacts.{all_hours, next_hour, no_hour_yet}
use Rattle.fw_sums.proofs.MarkFacts.{touched_at}
use Rattle.fw_sums.proofs.TurnFacts.{open_in_turn}
use Rattle.fw_sums.proofs.groups.Groups.add_hours.Goals as goal
use Rattle.fw_sums.proofs.groups.Groups.add_hours.Goals.{then-touched-hour+in_ok-add_hour, else-touched-hour}

pub loop-places-init : goal.loop-places-init
loop-places-init c = record {
  counted = no_hour_yet c.args.self.now c.args.key.now c.args.roster.now.commitments (all_rows (lent c.args.segments.now)) _ c.args.from (c.args.from + 0) (omega arith) c.requires.counts;
  kept = c.requires.kept;
  later = λ h at. refl;
  at = omega arith;
}

pub add_hour-requires-clause-rows : goal.add_hour-requires-clause-rows
add_hour-requires-clause-rows c =
    let kept = c.loop-places.invariant in
    let i = c.loop-places.places-index in
    let cs = c.args.roster.now.commitments in
    let place : c.loop-places.hour - c.args.from ≡ i = (let at = kept.at in omega (arith, at)) in
    let touched : is_touched cs (c.args.from + i) ≡ true = sym (touched_at cs c.args.from (length c.args.by_hour.now) c.args.touched.now i c.requires.touched c.loop-places-test.true) ∙ rw place at c.if-touched-hour.true in
    open_in_turn (lent c.args.segments.now) (all_rows (lent c.args.segments.now)) cs c.args.kept.now c.loop-places.kept c.args.by_hour.now c.args.from i c.places-item.result c.as_slice.result.now
    c.requires.by_hour c.loop-places-test.true c.places-item.is c.as_slice.ensures.value c.loop-places.hour kept.at touched (kept.later c.loop-places.hour (omega arith))

pub loop-places-preserved : goal.loop-places-preserved
loop-places-preserved c =
    let kept = c.loop-places.invariant in
    let i = c.loop-places.places-index in
    let rows = all_rows (lent c.args.segments.now) in
    let key = c.args.key.now in
    let cs = c.args.roster.now.commitments in
    let n = length c.args.by_hour.now in
    let at = kept.at in
    let place : c.loop-places.hour - c.args.from ≡ i = omega (arith, at) in
    elim c.if-touched-hour.branch [
      | then-touched-hour+in_ok-add_hour w ↦
          (let yes : get_or c.args.touched.now i false ≡ true = rw place at w.if-touched-hour.true in
          let adds : (costs : List Cost) → Counts c.loop-places.self (costs ++ map (row_cost key) (rows_in (c.args.from + i) rows)) → CountsHour w.add_hour.new.self costs key cs (rows_in (c.args.from + i) rows) (c.args.from + i) =
          rw at at w.in_ok-add_hour.ensures.counts in
          rw (w.self-is, w.kept-is) (record {
            counted = next_hour c.loop-places.self w.add_hour.new.self key cs rows c.args.touched.now c.args.from n i c.loop-places-test.true c.requires.touched kept.counted (rw yes adds);
            kept = w.in_ok-add_hour.ensures.kept;
            later = λ h from. w.in_ok-add_hour.ensures.others h (omega (arith, from)) ∙ kept.later h (omega (arith, from));
            at = omega (arith, at);
          }))
      | else-touched-hour w ↦
          (let no : get_or c.args.touched.now i false ≡ false = rw place at w.if-touched-hour.false in
          rw (w.self-is, w.kept-is) (record {
            counted = next_hour c.loop-places.self c.loop-places.self key cs rows c.args.touched.now c.args.from n i c.loop-places-test.true c.requires.touched kept.counted (rw no refl);
            kept = kept.kept;
            later = λ h from. kept.later h (omega (arith, from));
            at = omega (arith, at);
          }))
    ]

pub returns-clause-counts : goal.returns-clause-counts
returns-clause-counts c =
    let end : c.loop-places.places-index ≡ length c.args.by_hour.now = omega arith in
    all_hours c.loop-places.self c.args.key.now c.args.roster.now.commitments (all_rows (lent c.args.segments.now)) c.args.from (length c.args.by_hour.now) c.loop-places.places-index end c.loop-places.invariant.counted
