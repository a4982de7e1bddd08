use Rattle.std.proofs.Common.{◌∙◌, ℕ, take, ap}
use Rattle.fw_posted.specs.Rows.{segment_rows}
use Rattle.fw_snapshot.specs.Building.{Built}
use Rattle.fw_snapshot.specs.History.{History, rows_posted}
use Rattle.fw_past.proofs.ReplayFacts.{first_rows}
use Rattle.fw_past.proofs.past.as_of.Goals as goal

pub accepted_again-requires-clause-rows : goal.accepted_again-requires-clause-rows
accepted_again-requires-clause-rows c =
    let es = c.args.state.now.entries in
    ap (λ (b : Built). segment_rows b.segments) c.in_ok-builder.ensures
    ∙ c.in_ok-segments.ensures
    ∙ ap (take c.rows_of_first-rows.result) (c.segments.ensures.posted ∙ ap (λ (h : History). rows_posted h.entries) c.in_ok-joined.ensures)
    ∙ ap (λ (n : ℕ). take n (rows_posted es)) c.rows_of_first-rows.ensures
    ∙ first_rows es c.min-count.result
