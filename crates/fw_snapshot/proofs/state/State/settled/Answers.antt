use Rattle.std.proofs.Common.{◌∙◌, ap}
use Rattle.fw_posted.specs.Posted.{PostedValue}
use Rattle.fw_posted.specs.Rows.{segment_rows}
use Rattle.fw_snapshot.specs.Heads.{entries_of}
use Rattle.fw_snapshot.proofs.MergedState.{keeps_other_segments}
use Rattle.fw_snapshot.proofs.state.State.settled.Goals as goal

pub invariant_of-settled : goal.invariant_of-settled
invariant_of-settled c =
    keeps_other_segments c.settled.inside c.in_ok-settled-inside.field-0 c.settled.invariant
    (ap (λ (p : PostedValue). segment_rows p.segments) c.in_ok-settled-inside.ensures)
    (ap (λ (p : PostedValue). p.counts) c.in_ok-settled-inside.ensures)

pub returns : goal.returns
returns c =
    ap (λ (p : PostedValue). record { currency = c.settled.inside.currency; entries = entries_of c.settled.inside.heads (segment_rows p.segments) }) c.in_ok-settled-inside.ensures
    ∙ c.settled.view_is ∙ c.in_ok-settled.ensures
