use Rattle.std.proofs.Common.{◌≡◌, ◌∙◌, ◌+◌, ◌≤◌, ap, arith, drop, length, replicate, subst, sym, take, true}
use Rattle.fw_posted.specs.Marks.{selected, without}
use Rattle.fw_posted.specs.Parts.{all_marks}
use Rattle.fw_posted.specs.Posted.{PostedValue}
use Rattle.fw_posted.specs.Rows.{segment_rows}
use Rattle.fw_posted.proofs.MarkFacts.{selected-without}
use Rattle.fw_posted.proofs.PartFacts.{marks_count}
use Rattle.fw_posted.proofs.posted.PostedRows.without.Goals as goal
use Rattle.fw_posted.proofs.posted.PostedRows.without.Goals.{After-self}

-- there is a mark for each row
one_each : (c : After-self) → length (all_marks c.self.inside.parts) ≡ length (segment_rows c.self.inside.segments)
one_each c = marks_count 0 c.self.inside.parts c.self.inside.segments c.self.invariant.parts

inside : (c : After-self) → c.args.start + c.args.count ≤ length (all_marks c.self.inside.parts)
inside c =
    subst (λ (p : PostedValue). c.args.start + c.args.count ≤ length p.counts) (sym c.self.view_is) c.requires.inside

-- as many rows count no more as are withdrawn
fewer : (c : After-self) → length (selected (without c.args.start c.args.count (all_marks c.self.inside.parts)) (segment_rows c.self.inside.segments)) + c.args.count ≡ c.self.inside.counting
fewer c =
    selected-without c.args.start c.args.count (all_marks c.self.inside.parts) (segment_rows c.self.inside.segments) (one_each c) (inside c)
    (subst (λ (p : PostedValue). take c.args.count (drop c.args.start p.counts) ≡ replicate c.args.count true) (sym c.self.view_is) c.requires.counted)
    ∙ sym c.self.invariant.counting

pub parts_without-requires-clause-inside : goal.parts_without-requires-clause-inside
parts_without-requires-clause-inside c = omega (arith, one_each c, inside c)

pub parts_without-requires-clause-fits : goal.parts_without-requires-clause-fits
parts_without-requires-clause-fits c =
    let rows = ap (λ (p : PostedValue). length (segment_rows p.segments)) c.self.view_is in
    omega (arith, rows, c.len-rows.ensures.rows, c.len-rows.type_inv)

pub overflow_sub-result : goal.overflow_sub-result
overflow_sub-result c = omega (arith, fewer ((goal.at.overflow_sub-result c).After-self))

pub invariant_of-result : goal.invariant_of-result
invariant_of-result c =
    let less = fewer ((goal.at.invariant_of-result c).After-self) in
    let rows = segment_rows c.self.inside.segments in
    let same = ap (λ (p : PostedValue). length (segment_rows p.segments)) c.self.view_is in
    let now : length (selected (all_marks c.in_ok-parts.parts) rows) ≡ length (selected (without c.args.start c.args.count (all_marks c.self.inside.parts)) rows) = ap (λ l. length (selected l rows)) c.in_ok-parts.ensures.marks in
    rw c.in_ok-segments.ensures (record {
      parts = c.in_ok-parts.ensures.parts;
      rows = omega (arith, same, c.len-rows.ensures.rows);
      counting = omega (arith, less, now);
    })
