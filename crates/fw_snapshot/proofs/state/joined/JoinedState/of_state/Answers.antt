use Rattle.std.proofs.Common.{◌∙◌, ap}
use Rattle.fw_snapshot.specs.Heads.{entries_of}
use Rattle.fw_snapshot.proofs.JoinedFacts.{joined_segments, joined_state, same_rows}
use Rattle.fw_snapshot.proofs.state.joined.JoinedState.of_state.Goals as goal

pub invariant_of-merged : goal.invariant_of-merged
invariant_of-merged c = joined_state c.merged.inside c.in_ok-merged-inside.field-0 c.merged.invariant c.in_ok-merged-inside.ensures

pub invariant_of-merged-2 : goal.invariant_of-merged-2
invariant_of-merged-2 c = joined_state c.merged.inside c.in_ok-merged-inside.field-0 c.merged.invariant c.in_ok-merged-inside.ensures

pub invariant_of-result : goal.invariant_of-result
invariant_of-result c =
    joined_segments c.merged.inside c.in_ok-merged-inside.field-0 c.merged.invariant c.in_ok-merged-inside.ensures c.in_ok-segments.segments (c.in_ok-segments.ensures ∙ c.segments.ensures.segments) c.segments.ensures.few

pub returns : goal.returns
returns c =
    ap (λ rows. record { currency = c.merged.inside.currency; entries = entries_of c.merged.inside.heads rows }) (same_rows c.merged.inside c.in_ok-merged-inside.field-0 c.merged.invariant c.in_ok-merged-inside.ensures)
    ∙ c.merged.view_is ∙ c.in_ok-merged.ensures
