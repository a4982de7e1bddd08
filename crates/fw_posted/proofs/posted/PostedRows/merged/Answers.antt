use Rattle.std.proofs.Common.{◌≡◌, ◌∙◌, Bool, List, ap, length, replicate, sym, true}
use Rattle.std.proofs.lemmas.Result.{IfOk-weaker}
use Rattle.fw_charge.specs.Charge.{Charge}
use Rattle.fw_posted.specs.Merging.{merged}
use Rattle.fw_posted.specs.Parts.{all_marks}
use Rattle.fw_posted.specs.Posted.{PostedValue}
use Rattle.fw_posted.specs.Rows.{segment_rows}
use Rattle.fw_posted.proofs.MarkFacts.{all_selected}
use Rattle.fw_posted.proofs.MergeFacts.{rows_merged}
use Rattle.fw_posted.proofs.PartFacts.{marks_count}
use Rattle.fw_posted.proofs.posted.PostedRows.merged.Goals as goal

value : List (List Charge) → List Bool → PostedValue
value segments counts = record { segments = segments; counts = counts }

pub returns-then-self : goal.returns-then-self
unfolding value
returns-then-self c =
    let segments = c.self.inside.segments in
    let rows = segment_rows segments in
    let all : all_marks c.self.inside.parts ≡ replicate (length rows) true =
    all_selected (all_marks c.self.inside.parts) rows (marks_count 0 c.self.inside.parts segments c.self.invariant.parts) (sym c.self.invariant.counting ∙ c.if-self.true ∙ c.self.invariant.rows) in
    IfOk-weaker c.all_of.result _ _ (λ posted is. is
    ∙ ap (λ s. value s (replicate (length (segment_rows s)) true)) c.in_ok-segments.ensures
    ∙ ap (λ n. value (merged segments) (replicate n true)) (ap length (rows_merged segments))
    ∙ ap (value (merged segments)) (sym all)
    ∙ ap (λ (p : PostedValue). value (merged p.segments) p.counts) c.self.view_is) c.all_of.ensures

pub marked-requires : goal.marked-requires
marked-requires c =
    let segments = c.self.inside.segments in
    ap length (c.deref.ensures.value ∙ c.in_ok-counts.ensures)
    ∙ sym (ap (λ (p : PostedValue). length p.counts) c.self.view_is)
    ∙ marks_count 0 c.self.inside.parts segments c.self.invariant.parts
    ∙ sym (ap (λ s. length (segment_rows s)) c.in_ok-segments.ensures ∙ ap length (rows_merged segments))
