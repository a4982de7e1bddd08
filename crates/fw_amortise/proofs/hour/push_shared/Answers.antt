use Rattle.std.proofs.Common.{◌≡◌, ◌∙◌, ◌+◌, map, get_or, arith, ap, drop, filter, take, length}
use Rattle.std.proofs.lemmas.Option.{slice_get_within}
use Rattle.std.proofs.lemmas.List.{length-map, take_all}
use Rattle.fw_cover.specs.Applies.{is_in_term}
use Rattle.fw_cover.specs.Order.{commitments_in_order}
use Rattle.fw_cover.specs.RosterView.{roster_order}
use Rattle.fw_cover.proofs.RosterFacts.{roster_places_apart, roster_running}
use Rattle.fw_amortise.specs.Lines.{running}
use Rattle.fw_amortise.proofs.Places.{roster_are_placed, placed_at}
use Rattle.fw_amortise.proofs.Runs.{IsRun, next_run}
use Rattle.fw_amortise.proofs.Sharing.{shared_more}
use Rattle.fw_amortise.proofs.hour.push_shared.Goals as goal

pub push_shared_at-requires-clause-place : goal.push_shared_at-requires-clause-place
push_shared_at-requires-clause-place c =
    let cs = c.args.roster.now.commitments in
    let p = placed_at cs (roster_order c.args.roster.now) c.order-place-items.result.now c.loop-place.place-index c.order-place-items.ensures (roster_are_placed c.args.roster.now) c.loop-place-test.true in
    rw c.commitments-commitments.ensures (slice_get_within cs _ p.c p.is)

pub push_shared_at-requires-clause-takes : goal.push_shared_at-requires-clause-takes
push_shared_at-requires-clause-takes c =
    let cs = c.args.roster.now.commitments in
    let order = roster_order c.args.roster.now in
    let place = get_or c.order-place-items.result.now c.loop-place.place-index 0 in
    let p = placed_at cs order c.order-place-items.result.now c.loop-place.place-index c.order-place-items.ensures (roster_are_placed c.args.roster.now) c.loop-place-test.true in
    let run : IsRun c.args.cover.now.taken.items c.loop-place.left.now place (drop (c.loop-place.place-index + 1) order) =
    next_run c.args.cover.now.taken.items order c.loop-place.place-index (place, p.c) c.loop-place.left.now (roster_places_apart c.args.roster.now) p.within p.at c.loop-place.invariant.1 in
    c.split_at.ensures.front ∙ (ap (λ n. take n c.loop-place.left.now) c.run_of.ensures.run ∙ run.run)

pub loop-place-preserved : goal.loop-place-preserved
loop-place-preserved c =
    let cs = c.args.roster.now.commitments in
    let order = roster_order c.args.roster.now in
    let place = get_or c.order-place-items.result.now c.loop-place.place-index 0 in
    let p = placed_at cs order c.order-place-items.result.now c.loop-place.place-index c.order-place-items.ensures (roster_are_placed c.args.roster.now) c.loop-place-test.true in
    let run : IsRun c.args.cover.now.taken.items c.loop-place.left.now place (drop (c.loop-place.place-index + 1) order) =
    next_run c.args.cover.now.taken.items order c.loop-place.place-index (place, p.c) c.loop-place.left.now (roster_places_apart c.args.roster.now) p.within p.at c.loop-place.invariant.1 in
    let added = rw c.commitments-commitments.ensures at c.in_ok-push_shared_at.ensures in (
      shared_more cs (map (λ r. r.now) c.args.rows.now) c.args.cover.now.taken.items c.args.hour order c.loop-place.place-index (place, p.c) _ c.loop-place.lines.items _ p.within p.at c.loop-place.invariant.0 (added p.c p.is),
      c.split_at.ensures.back ∙ (ap (λ n. drop n c.loop-place.left.now) c.run_of.ensures.run ∙ run.rest),
    )

pub returns : goal.returns
unfolding running
returns c =
    let order = roster_order c.args.roster.now in
    let all : take c.loop-place.place-index order ≡ order =
    take_all _ _ (omega (arith, c.loop-place-test.false, ap length c.order-place-items.ensures, length-map order (λ c. c.0))) in
    let runs : filter (λ d. is_in_term d.1 c.args.hour) (take c.loop-place.place-index order) ≡ filter (λ d. is_in_term d.1 c.args.hour) (commitments_in_order c.args.roster.now.commitments) =
    ap (filter (λ d. is_in_term d.1 c.args.hour)) all ∙ roster_running c.args.roster.now c.args.hour c.requires.hour in
    rw runs at c.loop-place.invariant.0
