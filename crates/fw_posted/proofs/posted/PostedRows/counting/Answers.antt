use Rattle.std.proofs.Common.{◌≡◌, ◌∙◌, ap, length, replicate, sym, true}
use Rattle.fw_posted.specs.Marks.{selected}
use Rattle.fw_posted.specs.Parts.{all_marks}
use Rattle.fw_posted.specs.Posted.{PostedValue}
use Rattle.fw_posted.specs.Rows.{segment_rows}
use Rattle.fw_posted.proofs.MarkFacts.{all_selected, selected_all}
use Rattle.fw_posted.proofs.PartFacts.{marks_count}
use Rattle.fw_posted.proofs.posted.PostedRows.counting.Goals as goal

pub returns-then-self-clause-rows : goal.returns-then-self-clause-rows
returns-then-self-clause-rows c =
    let rows = segment_rows c.self.inside.segments in
    let all : all_marks c.self.inside.parts ≡ replicate (length rows) true =
    all_selected (all_marks c.self.inside.parts) rows (marks_count 0 c.self.inside.parts c.self.inside.segments c.self.invariant.parts) (sym c.self.invariant.counting ∙ c.if-self.true ∙ c.self.invariant.rows) in
    ap segment_rows (c.of_all.ensures ∙ c.in_ok-copy.ensures)
    ∙ sym (ap (λ l. selected l rows) all ∙ selected_all rows)
    ∙ ap (λ (p : PostedValue). selected p.counts (segment_rows p.segments)) c.self.view_is
