use Rattle.std.proofs.Common.{◌≡◌, ◌∙◌, ◌+◌, ◌≤◌, length, arith}
use Rattle.fw_entries.proofs.Left.{none_left, run_taken, segment_taken}
use Rattle.fw_entries.proofs.rows_left.RowsLeft.next_run.Goals as goal

pub returns-then-self-len-clause-taken : goal.returns-then-self-len-clause-taken
returns-then-self-len-clause-taken c =
    let at = c.loop-self.self in
    c.loop-self.invariant ∙ run_taken at.taken (at.taken + c.min.result) at.segment at.segments.now c.get-columns.result.now c.get-columns.ensures (omega arith)

pub loop-self-preserved : goal.loop-self-preserved
loop-self-preserved c =
    let at = c.loop-self.self in
    let past : length c.get-columns.result.now ≤ at.taken = omega (arith, c.len-len.ensures.count, c.if-self-len.false) in
    c.loop-self.invariant ∙ segment_taken at.taken at.segment at.segments.now c.get-columns.result.now c.get-columns.ensures past

pub returns-clause-none : goal.returns-clause-none
returns-clause-none c =
    let at = c.loop-self.self in
    let past : length at.segments.now ≤ at.segment = omega (arith, c.len.ensures, c.loop-self-test.false) in
    λ none. c.loop-self.invariant ∙ none_left at.taken at.segment at.segments.now past
