use Rattle.std.proofs.Common.{◌≡◌, ◌∙◌, ◌<◌, ap, arith, length, refl, set}
use Rattle.fw_posted.specs.Parts.{all_marks, IsPartOf}
use Rattle.fw_posted.proofs.PartFacts.{marks_kept, part_at, parts_count, parts_set}
use Rattle.fw_posted.proofs.settling.settled_parts.Goals as goal
use Rattle.fw_posted.proofs.settling.settled_parts.Goals.{then-not-is_settled+in_ok-part+in_ok-after-2, else-not-is_settled}

pub loop-place-init : goal.loop-place-init
loop-place-init c = rw c.in_ok-after.ensures (record { parts = c.requires; marks = refl })

pub get-part-requires : goal.get-part-requires
get-part-requires c =
    let count = parts_count 0 c.loop-place.after c.args.segments.now c.loop-place.invariant.parts in
    omega (arith, count, c.loop-place-test.true, c.len-place-end.ensures)

pub settled-requires : goal.settled-requires
settled-requires c = (part_at 0 c.loop-place.after c.args.segments.now c.loop-place.place c.get-part.result.now c.get.result.now c.loop-place.invariant.parts c.get-part.ensures c.get.ensures).of

pub set-requires : goal.set-requires
set-requires c =
    let count = parts_count 0 c.loop-place.after c.args.segments.now c.loop-place.invariant.parts in
    omega (arith, count, c.loop-place-test.true, c.len-place-end.ensures)

pub loop-place-preserved : goal.loop-place-preserved
loop-place-preserved c =
    let segments = c.args.segments.now in
    let before = c.loop-place.after in
    let place = c.loop-place.place in
    let was = c.get-part.result.now in
    elim c.if-not-is_settled.branch [
      | then-not-is_settled+in_ok-part+in_ok-after-2 w ↦
          let rows = w.get.result.now in
          let part = w.in_ok-part.part in
          let at = part_at 0 before segments place was rows c.loop-place.invariant.parts c.get-part.ensures w.get.ensures in
          let is : c.if-not-is_settled.after ≡ set before place part = w.after-is ∙ w.in_ok-after-2.ensures in
          let of : IsPartOf part rows = record { some = at.of.some; marks = ap length w.in_ok-part.ensures.marks ∙ at.of.marks; counting = w.in_ok-part.ensures.left } in
          record {
            parts = rw is (parts_set 0 before segments place part rows c.loop-place.invariant.parts w.get.ensures (w.in_ok-part.ensures.start ∙ at.start) of);
            marks = ap all_marks is ∙ marks_kept before segments place was part c.loop-place.invariant.parts c.get-part.ensures w.in_ok-part.ensures.marks ∙ c.loop-place.invariant.marks;
          }
      | else-not-is_settled w ↦ rw w.after-is c.loop-place.invariant
    ]
