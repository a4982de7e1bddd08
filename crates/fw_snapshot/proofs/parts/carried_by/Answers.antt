use Rattle.std.proofs.Common.{◌≡◌, ◌∙◌, ◌+◌, ◌≤◌, List, length, take, drop, sym, ap, arith, if◌then◌else◌}
use Rattle.std.specs.Prelude.{slice_range}
use Rattle.fw_charge.specs.Charge.{Charge}
use Rattle.fw_persistent.specs.Counts.{count_of}
use Rattle.fw_posted.specs.Rows.{segment_rows}
use Rattle.fw_snapshot.specs.Building.{rows_before}
use Rattle.fw_snapshot.specs.Judging.{carries}
use Rattle.fw_snapshot.proofs.EntryFacts.{counts_first}
use Rattle.fw_snapshot.proofs.RunFacts.{counts_above, counts_more, run_more}
use Rattle.fw_snapshot.proofs.parts.carried_by.Goals as goal

pub loop-done-init : goal.loop-done-init
loop-done-init c = record {
  seen = record {
    carried = counts_first c.args.before.now c.in_ok-after.after c.in_ok-after.ensures;
    place = omega arith;
    inside = c.requires.inside;
  };
  few = omega arith;
}

pub next_run-run-requires-clause-some : goal.next_run-run-requires-clause-some
next_run-run-requires-clause-some c = omega (arith, c.loop-done.invariant.seen.place, c.requires.enough, c.loop-done-test)

pub next_run-run-requires-clause-inside : goal.next_run-run-requires-clause-inside
next_run-run-requires-clause-inside c = c.loop-done.invariant.seen.inside

pub get-columns-requires : goal.get-columns-requires
get-columns-requires c = c.next_run-run.ensures.segment

pub carried_with_run-requires-clause-within : goal.carried_with_run-requires-clause-within
carried_with_run-requires-clause-within c = c.next_run-run.ensures.inside c.get-columns.result.now c.get-columns.ensures

pub carried_with_run-requires-clause-above : goal.carried_with_run-requires-clause-above
carried_with_run-requires-clause-above c =
    counts_above c.args.before.now c.loop-done.after (take c.loop-done.done (drop (rows_before c.args.segments.now c.args.start) (segment_rows c.args.segments.now))) c.loop-done.invariant.seen.carried

pub loop-done-preserved : goal.loop-done-preserved
loop-done-preserved c =
    let segments = c.args.segments.now in
    let start = rows_before segments c.args.start in
    let rows = drop start (segment_rows segments) in
    let done = c.loop-done.done in
    let run = c.next_run-run.result in
    let columns = c.get-columns.result.now in
    let within : run.end ≤ length columns = c.next_run-run.ensures.inside columns c.get-columns.ensures in
    let here : length (segment_rows (take run.segment segments)) + run.first ≡ start + done = omega (arith, c.next_run-run.ensures.place, c.loop-done.invariant.seen.place) in
    let more = run_more segments start done run.segment columns run.first run.end c.get-columns.ensures (omega (arith, c.next_run-run.ensures.order)) within here in
    record {
      seen = record {
        carried = λ id. counts_more c.args.before.now c.loop-done.after c.in_ok-after-2.after (take done rows) (slice_range columns run.first run.end) c.loop-done.invariant.seen.carried c.in_ok-after-2.ensures id
            ∙ ap (λ (rs : List Charge). count_of id c.args.before.now + (if carries id rs then 1 else 0)) (sym more);
        place = omega (arith, here, c.next_run-run.ensures.order);
        inside = c.next_run-run.ensures.inside;
      };
      few = omega (arith, c.next_run-run.ensures.few, c.next_run-run.ensures.order, c.loop-done-test);
    }

pub loop-done-smaller : goal.loop-done-smaller
loop-done-smaller c = omega (arith, c.next_run-run.ensures.few, c.next_run-run.ensures.order, c.loop-done-test)

pub returns : goal.returns
returns c = λ id.
    let segments = c.args.segments.now in
    let end : c.loop-done.done ≡ c.args.count = omega (arith, c.loop-done.invariant.few, c.loop-done-test.false) in
    c.loop-done.invariant.seen.carried id
    ∙ ap (λ n. count_of id c.args.before.now + (if carries id (take n (drop (rows_before segments c.args.start) (segment_rows segments))) then 1 else 0)) end
