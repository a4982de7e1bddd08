use Rattle.std.proofs.Common.{◌∙◌, ◌-◌, ℕ, take, ap}
use Rattle.fw_posted.specs.Rows.{segment_rows}
use Rattle.fw_past.proofs.FrontFacts.{segment_more}
use Rattle.fw_past.proofs.front.front_of.Goals as goal

pub loop-place-preserved : goal.loop-place-preserved
loop-place-preserved c =
    let front = c.loop-place.front in
    let place = c.loop-place.place in
    let left = c.loop-place.left in
    let segments = c.args.segments.now in
    let columns = c.get-columns.result.now in
    let first = c.in_ok-first_of.field-0 in
    let all = take c.args.count (segment_rows segments) in
    let more = segment_more front segments all columns first left place c.loop-place.invariant c.get-columns.ensures c.in_ok-first_of.ensures in
    let less = c.saturating_sub-left.ensures ∙ ap (λ (n : ℕ). left - n) c.len.ensures.count in
    rw c.in_ok-front.ensures (rw less more)
