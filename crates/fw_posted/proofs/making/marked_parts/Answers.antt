use Rattle.std.proofs.Common.{◌≡◌, ◌∙◌, ◌+◌, ◌<◌, ◌++◌, ℕ, ap, arith, drop, length, subst, sym, take, refl}
use Rattle.std.proofs.lemmas.List.{drop-drop, length-drop, length-take-le}
use Rattle.fw_posted.specs.Parts.{all_marks, AreParts, IsPartOf}
use Rattle.fw_posted.specs.Rows.{rows_before_segment}
use Rattle.fw_posted.proofs.MarkFacts.{take_behind}
use Rattle.fw_posted.proofs.PartFacts.{count_next, count_within, parts_next, push_marks}
use Rattle.fw_posted.proofs.making.marked_parts.Goals as goal

pub loop-place-init : goal.loop-place-init
unfolding AreParts
loop-place-init c = rw c.new-parts.ensures (record { parts = tt; marks = refl; rest = refl })

pub split_at-requires : goal.split_at-requires
split_at-requires c =
    let segments = c.args.segments.now in
    let place = c.loop-place.place in
    let next = count_next segments place c.get-rows.result.now c.get-rows.ensures in
    let all = count_within segments (place + 1) in
    let rest = length-drop (rows_before_segment segments place) c.args.counts.now in
    omega (arith, next, all, rest, ap length c.loop-place.invariant.rest, c.requires, c.len.ensures.count)

pub loop-place-preserved : goal.loop-place-preserved
loop-place-preserved c =
    let segments = c.args.segments.now in
    let counts = c.args.counts.now in
    let place = c.loop-place.place in
    let rows = c.get-rows.result.now in
    let parts = c.loop-place.parts in
    let part = c.in_ok-part.part in
    let before : ℕ = rows_before_segment segments place in
    let len : c.len.result ≡ length rows = c.len.ensures.count in
    let next : rows_before_segment segments (place + 1) ≡ before + c.len.result = count_next segments place rows c.get-rows.ensures ∙ ap (λ n. before + n) (sym len) in
    let inside = count_within segments place in
    let front : c.split_at.result.0.now ≡ take c.len.result (drop before counts) = c.split_at.ensures.front ∙ ap (take c.len.result) c.loop-place.invariant.rest in
    let back : c.split_at.result.1.now ≡ drop c.len.result (drop before counts) = c.split_at.ensures.back ∙ ap (drop c.len.result) c.loop-place.invariant.rest in
    let rest = length-drop before counts in
    let start : part.start ≡ before = omega (arith, c.in_ok-part.ensures.start, ap length c.loop-place.invariant.rest, rest, inside, c.requires) in
    let marks : part.marks ≡ c.split_at.result.0.now = c.in_ok-part.ensures.marks in
    let whole = count_within segments (place + 1) in
    let long : length part.marks ≡ length rows =
    ap length (marks ∙ front) ∙ length-take-le c.len.result (drop before counts) (omega (arith, next, whole, rest, c.requires)) ∙ len in
    let of : IsPartOf part rows = record {
      some = subst (λ n. 0 < n) len c.len.ensures.some;
      marks = long;
      counting = c.in_ok-part.ensures.left;
    } in
    record {
      parts = subst (λ l. AreParts 0 l (take (place + 1) segments)) (sym c.in_ok-parts.ensures) (parts_next parts segments place part rows c.loop-place.invariant.parts c.get-rows.ensures start of);
      marks = ap all_marks c.in_ok-parts.ensures ∙ push_marks parts part
          ∙ ap (λ l. l ++ part.marks) c.loop-place.invariant.marks
          ∙ ap (λ l. take before counts ++ l) (marks ∙ front)
          ∙ sym (take_behind before c.len.result counts)
          ∙ ap (λ n. take n counts) (sym next);
      rest = back ∙ drop-drop c.len.result before counts ∙ ap (λ n. drop n counts) (sym next);
    }
