use Rattle.std.proofs.Common.{◌≡◌, ◌∙◌, ap}
use Rattle.fw_posted.specs.Merging.{merged}
use Rattle.fw_posted.specs.Posted.{PostedValue}
use Rattle.fw_posted.specs.Rows.{segment_rows}
use Rattle.fw_posted.proofs.MergeFacts.{rows_merged}
use Rattle.fw_snapshot.specs.Heads.{entries_of}
use Rattle.fw_snapshot.proofs.MergedState.{keeps_other_segments}
use Rattle.fw_snapshot.proofs.state.State.merged.Goals as goal

pub invariant_of-merged : goal.invariant_of-merged
invariant_of-merged c =
    let before = c.merged.inside.posted in
    let is : c.in_ok-merged-inside.field-0 ≡ record { segments = merged before.segments; counts = before.counts } = c.in_ok-merged-inside.ensures in
    keeps_other_segments c.merged.inside c.in_ok-merged-inside.field-0 c.merged.invariant
    (ap (λ (p : PostedValue). segment_rows p.segments) is ∙ rows_merged before.segments)
    (ap (λ (p : PostedValue). p.counts) is)

pub returns : goal.returns
returns c =
    let before = c.merged.inside.posted in
    let is : c.in_ok-merged-inside.field-0 ≡ record { segments = merged before.segments; counts = before.counts } = c.in_ok-merged-inside.ensures in
    ap (λ rows. record { currency = c.merged.inside.currency; entries = entries_of c.merged.inside.heads rows }) (ap (λ (p : PostedValue). segment_rows p.segments) is ∙ rows_merged before.segments)
    ∙ c.merged.view_is ∙ c.in_ok-merged.ensures
