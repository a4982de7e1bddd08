use Rattle.std.proofs.Common.{◌≡◌, ◌∙◌, ◌+◌, ◌++◌, ◌∷◌, [], ap, arith, length}
use Rattle.std.proofs.lemmas.List.{length-append}
use Rattle.fw_posted.specs.Parts.{all_marks, AreParts, PartValue}
use Rattle.fw_posted.specs.Rows.{segment_rows}
use Rattle.fw_posted.proofs.MarkFacts.{selected_few}
use Rattle.fw_posted.proofs.PartFacts.{count_more, parts_push, push_rows, whole_part, whole_selected}
use Rattle.fw_posted.proofs.posted.PostedRows.push.Goals as goal

pub overflow_add-result : goal.overflow_add-result
overflow_add-result c =
    let few = selected_few (all_marks c.self.inside.parts) (segment_rows c.self.inside.segments) in
    let count = c.self.invariant.counting in
    let rows = c.self.invariant.rows in
    let fits = c.in-Some.ensures in
    omega (arith, few, count, rows, fits.0)

pub invariant_of-result : goal.invariant_of-result
invariant_of-result c =
    let segments = c.self.inside.segments in
    let parts = c.self.inside.parts in
    let part = c.whole.result in
    let rows = c.args.rows.now in
    let len = c.len-len.ensures.count in
    let made : c.in_ok-segments.segments ≡ segments ++ rows ∷ [] =
    c.in_ok-segments.ensures ∙ ap (λ r. segments ++ r ∷ []) c.in_ok-copy.ensures in
    let start : part.start ≡ 0 + length (segment_rows segments) =
    ap (λ (p : PartValue). p.start) c.whole.ensures ∙ c.self.invariant.rows ∙ (let e : length (segment_rows segments) ≡ 0 + length (segment_rows segments) = omega arith in e) in
    let are : AreParts 0 (parts ++ part ∷ []) (segments ++ rows ∷ []) =
    parts_push 0 parts segments part rows c.self.invariant.parts start (whole_part part c.self.inside.rows c.len-len.result rows c.whole.ensures len c.len-len.ensures.some) in
    let all : length (segment_rows (segments ++ rows ∷ [])) ≡ length (segment_rows segments) + length rows =
    ap length (push_rows segments rows) ∙ length-append (segment_rows segments) rows in
    let counting = count_more parts segments part rows c.self.invariant.parts (whole_selected part c.self.inside.rows c.len-len.result rows c.whole.ensures len) in
    rw (made, c.in_ok-parts.ensures) (record {
      parts = are;
      rows = omega (arith, all, len, c.self.invariant.rows, c.in-Some.ensures.1);
      counting = omega (arith, counting, len, c.self.invariant.counting);
    })
