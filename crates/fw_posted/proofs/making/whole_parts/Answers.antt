use Rattle.std.proofs.Common.{◌≡◌, ◌∙◌, ◌+◌, ◌++◌, true, ap, arith, replicate, subst, sym, take, refl}
use Rattle.std.proofs.lemmas.List.{replicate-append-replicate}
use Rattle.fw_posted.specs.Parts.{all_marks, AreParts, PartValue}
use Rattle.fw_posted.proofs.PartFacts.{count_next, parts_next, push_marks, whole_part}
use Rattle.fw_posted.proofs.making.whole_parts.Goals as goal

pub loop-place-init : goal.loop-place-init
unfolding AreParts
loop-place-init c = rw c.new-parts.ensures (record { parts = tt; marks = refl; rows = refl })

pub loop-place-preserved : goal.loop-place-preserved
loop-place-preserved c =
    let segments = c.args.segments.now in
    let place = c.loop-place.place in
    let before = c.loop-place.parts in
    let rows = c.get.result.now in
    let part = c.whole.result in
    let sum : c.in-Some.behind ≡ c.loop-place.rows + c.len-len.result = c.in-Some.ensures.1 in
    let are = parts_next before segments place part rows c.loop-place.invariant.parts c.get.ensures (ap (λ (p : PartValue). p.start) c.whole.ensures ∙ c.loop-place.invariant.rows) (whole_part part c.loop-place.rows c.len-len.result rows c.whole.ensures c.len-len.ensures.count c.len-len.ensures.some) in
    record {
      parts = subst (λ l. AreParts 0 l (take (place + 1) segments)) (sym c.in_ok-parts.ensures) are;
      marks = ap all_marks c.in_ok-parts.ensures ∙ push_marks before part
          ∙ ap (λ l. l ++ part.marks) c.loop-place.invariant.marks
          ∙ ap (λ (p : PartValue). replicate c.loop-place.rows true ++ p.marks) c.whole.ensures
          ∙ replicate-append-replicate c.loop-place.rows c.len-len.result true
          ∙ ap (λ n. replicate n true) (sym sum);
      rows = sum ∙ (let next = count_next segments place rows c.get.ensures in omega (arith, next, c.loop-place.invariant.rows, c.len-len.ensures.count));
    }
