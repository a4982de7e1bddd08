use Rattle.std.proofs.Common.{◌∙◌, ◌<◌, ◌++◌, ◌∷◌, [], false, Some, ap, arith, length, sym, take}
use Rattle.std.proofs.lemmas.List.{length-take-le}
use Rattle.std.proofs.lemmas.Option.{slice_get-get_or}
use Rattle.fw_posted.specs.Marks.{selected}
use Rattle.fw_posted.proofs.MarkFacts.{selected_few, selected_next_false, selected_next_true}
use Rattle.fw_posted.proofs.part.push_selected.Goals as goal
use Rattle.fw_posted.proofs.part.push_selected.Goals.{then-counts-place+in_ok-push_lent, else-counts-place}

pub loop-place-init : goal.loop-place-init
unfolding selected
loop-place-init c = c.requires.empty

pub push_lent-requires : goal.push_lent-requires
push_lent-requires c =
    let few = selected_few (take c.loop-place.place c.args.counts.now) (take c.loop-place.place c.args.rows.now) in
    let so_far = length-take-le c.loop-place.place c.args.rows.now (let rows = c.len-place-end.ensures.count in let test = c.loop-place-test.true in omega arith) in
    omega (arith, few, so_far, ap length c.loop-place.invariant, c.len-place-end.ensures.few, c.len-place-end.ensures.count, c.loop-place-test.true)

pub loop-place-preserved : goal.loop-place-preserved
loop-place-preserved c =
    let marks = c.args.counts.now in
    let rows = c.args.rows.now in
    let place = c.loop-place.place in
    let inside : place < length marks = omega (arith, c.requires.marks, c.len-place-end.ensures.count, c.loop-place-test.true) in
    elim c.if-counts-place.branch [
      | then-counts-place+in_ok-push_lent w ↦ w.builder-is ∙ w.in_ok-push_lent.ensures.added ∙ ap (λ l. l ++ w.lent.result ∷ []) c.loop-place.invariant
          ∙ sym (selected_next_true marks rows place w.lent.result (slice_get-get_or marks place false inside ∙ ap Some w.if-counts-place.true) w.lent.ensures)
      | else-counts-place w ↦ w.builder-is ∙ c.loop-place.invariant
          ∙ sym (selected_next_false marks rows place (slice_get-get_or marks place false inside ∙ ap Some w.if-counts-place.false))
    ]
