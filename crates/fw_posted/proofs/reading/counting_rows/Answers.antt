use Rattle.std.proofs.Common.{◌≡◌, ◌∙◌, ◌+◌, ◌≤◌, ◌++◌, ◌∷◌, [], Global, List, Vec, ap, arith, length, sym, take, refl}
use Rattle.std.specs.Prelude.{Option, unwrap_or}
use Rattle.std.proofs.lemmas.List.{append-nil, length_push, take_all}
use Rattle.fw_charge.specs.Charge.{Charge}
use Rattle.fw_posted.specs.Marks.{selected}
use Rattle.fw_posted.specs.Parts.{all_marks}
use Rattle.fw_posted.specs.Rows.{segment_rows}
use Rattle.fw_posted.proofs.PartFacts.{part_at, parts_count, push_rows, selected_next}
use Rattle.fw_posted.proofs.reading.counting_rows.Goals as goal
use Rattle.fw_posted.proofs.reading.counting_rows.Goals.{in-Some+in_ok-push, in_default}

pub loop-place-init : goal.loop-place-init
unfolding selected
loop-place-init c = rw c.new-counting.ensures.items (record { rows = refl; few = omega arith })

pub get-part-requires : goal.get-part-requires
get-part-requires c =
    let count = parts_count 0 c.args.parts.now c.args.segments.now c.requires in
    omega (arith, count, c.loop-place-test.true, c.len-place-end.ensures)

pub counting-requires : goal.counting-requires
counting-requires c = (part_at 0 c.args.parts.now c.args.segments.now c.loop-place.place c.get-part.result.now c.get.result.now c.requires c.get-part.ensures c.get.ensures).of

pub loop-place-preserved : goal.loop-place-preserved
loop-place-preserved c =
    let parts = c.args.parts.now in
    let segments = c.args.segments.now in
    let place = c.loop-place.place in
    let part = c.get-part.result.now in
    let rows = c.get.result.now in
    let items = c.loop-place.counting.items in
    let so_far : List Charge = selected (all_marks (take place parts)) (segment_rows (take place segments)) in
    let next : selected (all_marks (take (place + 1) parts)) (segment_rows (take (place + 1) segments)) ≡ so_far ++ selected part.marks rows =
    selected_next 0 parts segments place part rows c.requires c.get-part.ensures c.get.ensures in
    elim c.match-branch-2.branch [
      | in-Some+in_ok-push w ↦ let same : c.match-branch-2.counting.items ≡ items ++ w.in-Some.rows ∷ [] = ap (λ (v : Vec (List Charge) Global). v.items) w.counting-is ∙ w.in_ok-push.ensures.items in
          record {
            rows = ap segment_rows same
                ∙ push_rows items w.in-Some.rows
                ∙ ap (λ l. l ++ w.in-Some.rows) c.loop-place.invariant.rows
                ∙ ap (λ l. so_far ++ l) (ap (λ (o : Option (List Charge)). unwrap_or o []) (sym w.in-Some.is) ∙ c.in_ok-rows.ensures)
                ∙ sym next;
            few = omega (arith, ap length same, length_push items w.in-Some.rows, c.loop-place.invariant.few);
          }
      | in_default w ↦ let same : c.match-branch-2.counting.items ≡ items = ap (λ (v : Vec (List Charge) Global). v.items) w.counting-is in
          record {
            rows = ap segment_rows same
                ∙ c.loop-place.invariant.rows
                ∙ sym (append-nil so_far)
                ∙ ap (λ l. so_far ++ l) (ap (λ (o : Option (List Charge)). unwrap_or o []) (sym w.in_default.is) ∙ c.in_ok-rows.ensures)
                ∙ sym next;
            few = omega (arith, ap length same, c.loop-place.invariant.few);
          }
    ]

pub returns-clause-rows : goal.returns-clause-rows
returns-clause-rows c =
    let parts = c.args.parts.now in
    let segments = c.args.segments.now in
    let place = c.loop-place.place in
    let count = parts_count 0 parts segments c.requires in
    let past : length segments ≤ place = omega (arith, c.loop-place-test.false, c.len-place-end.ensures) in
    c.loop-place.invariant.rows
    ∙ ap (λ l. selected (all_marks l) (segment_rows (take place segments))) (take_all place parts (omega (arith, count, past)))
    ∙ ap (λ l. selected (all_marks parts) (segment_rows l)) (take_all place segments past)
