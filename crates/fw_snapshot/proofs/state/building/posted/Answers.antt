use Rattle.std.proofs.Common.{rules, ◌≡◌, ◌∙◌, ◌+◌, ◌-◌, ◌++◌, ◌≤◌, ◌||◌, List, length, take, drop, All, sym, ap, subst, refl, arith, if◌then◌else◌}
use Rattle.std.specs.Prelude.{slice_range}
use Rattle.std.specs.List.{flat_map, list_any}
use Rattle.std.proofs.lemmas.Grind.{flat_map-append}
use Rattle.std.proofs.lemmas.List.{length-append}
use Rattle.std.proofs.lemmas.List.Elements.{All-append, All-drop, All-take}
use Rattle.std.proofs.lemmas.List.Folds.{list_any-append}
use Rattle.fw_charge.specs.Charge.{Charge}
use Rattle.fw_charge.specs.Spelling.{row, IsRow}
use Rattle.fw_persistent.specs.Counts.{count_of}
use Rattle.fw_snapshot.specs.Building.{has_counted_id, rows_before}
use Rattle.fw_snapshot.specs.Judging.{carries}
use Rattle.fw_posted.specs.Rows.{segment_rows}
use Rattle.fw_snapshot.proofs.EntryFacts.{counts_first}
use Rattle.fw_snapshot.proofs.RunFacts.{counts_above, counts_more, run_more}
use Rattle.fw_snapshot.proofs.state.building.posted.Goals as goal
use Rattle.fw_snapshot.proofs.state.building.posted.Goals.{After-get-columns, then-own, else-own}

pub loop-done-init : goal.loop-done-init
loop-done-init c = record {
  seen = record {
    len = omega arith;
    few = omega arith;
    valid = search rules;
    own = refl;
    carried = counts_first c.args.carried.now c.in_ok-after.after c.in_ok-after.ensures;
    place = omega arith;
    inside = c.requires.inside;
  };
  few = omega arith;
}

pub next_run-run-requires-clause-some : goal.next_run-run-requires-clause-some
next_run-run-requires-clause-some c = omega (arith, c.loop-done.invariant.seen.place, c.requires.enough, c.loop-done-test)

pub next_run-run-requires-clause-inside : goal.next_run-run-requires-clause-inside
next_run-run-requires-clause-inside c = c.loop-done.invariant.seen.inside

pub get-columns-requires : goal.get-columns-requires
get-columns-requires c = c.next_run-run.ensures.segment

-- the run is inside its segment
within : (c : After-get-columns) → c.next_run-run.result.end ≤ length c.get-columns.result.now
within c = c.next_run-run.ensures.inside c.get-columns.result.now c.get-columns.ensures

pub rows_len-len-requires-clause-within : goal.rows_len-len-requires-clause-within
rows_len-len-requires-clause-within c = within (goal.at.rows_len-len-requires-clause-within c).After-get-columns

pub carry_counted-own-requires-clause-within : goal.carry_counted-own-requires-clause-within
carry_counted-own-requires-clause-within c = within (goal.at.carry_counted-own-requires-clause-within c).After-get-columns

pub carried_with_run-requires-clause-within : goal.carried_with_run-requires-clause-within
carried_with_run-requires-clause-within c = within (goal.at.carried_with_run-requires-clause-within c).After-get-columns

pub carried_with_run-requires-clause-above : goal.carried_with_run-requires-clause-above
carried_with_run-requires-clause-above c =
    counts_above c.args.carried.now c.loop-done.after (take c.loop-done.done (drop (rows_before c.args.segments.now c.args.start) (segment_rows c.args.segments.now))) c.loop-done.invariant.seen.carried

pub loop-done-preserved : goal.loop-done-preserved
loop-done-preserved c =
    let segments = c.args.segments.now in
    let start = rows_before segments c.args.start in
    let rows = drop start (segment_rows segments) in
    let done = c.loop-done.done in
    let run = c.next_run-run.result in
    let columns = c.get-columns.result.now in
    let part = slice_range columns run.first run.end in
    let inside : run.end ≤ length columns = c.next_run-run.ensures.inside columns c.get-columns.ensures in
    let here : length (segment_rows (take run.segment segments)) + run.first ≡ start + done = omega (arith, c.next_run-run.ensures.place, c.loop-done.invariant.seen.place) in
    let more : take (done + (run.end - run.first)) rows ≡ take done rows ++ part =
    run_more segments start done run.segment columns run.first run.end c.get-columns.ensures (omega (arith, c.next_run-run.ensures.order)) inside here in
    let longer : length (flat_map row (take (done + (run.end - run.first)) rows)) ≡ length (flat_map row (take done rows)) + length (flat_map row part) =
    ap (λ (rs : List Charge). length (flat_map row rs)) more ∙ ap length (flat_map-append row (take done rows) part) ∙ length-append (flat_map row (take done rows)) (flat_map row part) in
    let counted = has_counted_id c.args.registered.now in
    let step : list_any counted (take (done + (run.end - run.first)) rows) ≡ (list_any counted (take done rows) || list_any counted part) =
    ap (list_any counted) more ∙ list_any-append counted (take done rows) part in
    record {
      seen = record {
        len = omega (arith, longer, c.loop-done.invariant.seen.len, c.rows_len-len.ensures.value);
        few = omega (arith, c.loop-done.invariant.seen.few, c.rows_len-len.ensures.few);
        valid = subst (All IsRow) (sym more) (All-append IsRow (take done rows) part c.loop-done.invariant.seen.valid (All-take IsRow (run.end - run.first) (drop run.first columns) (All-drop IsRow run.first columns c.rows_len-len.ensures.valid)));
        own = elim c.if-own.branch [
          | then-own w ↦ w.own-is ∙ (w.if-own.true ∙ sym (step ∙ ap (λ b. b || list_any counted part) (sym c.loop-done.invariant.seen.own ∙ w.if-own.true)))
          | else-own w ↦ w.own-is ∙ (w.carry_counted-own.ensures ∙ sym (step ∙ ap (λ b. b || list_any counted part) (sym c.loop-done.invariant.seen.own ∙ w.if-own.false)))
        ];
        carried = λ id. counts_more c.args.carried.now c.loop-done.after c.in_ok-after-2.after (take done rows) part c.loop-done.invariant.seen.carried c.in_ok-after-2.ensures id
            ∙ ap (λ (rs : List Charge). count_of id c.args.carried.now + (if carries id rs then 1 else 0)) (sym more);
        place = omega (arith, here, c.next_run-run.ensures.order);
        inside = c.next_run-run.ensures.inside;
      };
      few = omega (arith, c.next_run-run.ensures.few, c.next_run-run.ensures.order, c.loop-done-test);
    }

pub loop-done-smaller : goal.loop-done-smaller
loop-done-smaller c = omega (arith, c.next_run-run.ensures.few, c.next_run-run.ensures.order, c.loop-done-test)
