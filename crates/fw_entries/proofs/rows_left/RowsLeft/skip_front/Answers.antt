use Rattle.std.proofs.Common.{◌≡◌, ◌∙◌, ◌+◌, ◌-◌, ◌<◌, ◌≤◌, ℕ, length, drop, ap, arith}
use Rattle.fw_entries.specs.RowsLeft.{rows_behind, rows_left}
use Rattle.fw_entries.proofs.Left.{none_left, none_skipped, segment_skipped, some_skipped}
use Rattle.fw_entries.proofs.rows_left.RowsLeft.skip_front.Goals as goal

pub returns-then-left-rest : goal.returns-then-left-rest
returns-then-left-rest c =
    let at = c.loop-self.self in
    let few : c.loop-self.left < length c.get.result.now - at.taken = omega (arith, c.if-left-rest.true, c.saturating_sub-rest.ensures, c.len-in-loop-self.ensures.count) in
    some_skipped at.taken c.loop-self.left at.segment at.segments.now c.get.result.now c.get.ensures few ∙ c.loop-self.invariant

pub loop-self-preserved : goal.loop-self-preserved
loop-self-preserved c =
    let at = c.loop-self.self in
    let rest : c.saturating_sub-rest.result ≡ length c.get.result.now - at.taken = omega (arith, c.saturating_sub-rest.ensures, c.len-in-loop-self.ensures.count) in
    let many : length c.get.result.now - at.taken ≤ c.loop-self.left = omega (arith, rest, c.if-left-rest.false) in
    ap (λ (k : ℕ). drop (c.loop-self.left - k) (rows_behind 0 (drop (at.segment + 1) at.segments.now))) rest
    ∙ segment_skipped at.taken c.loop-self.left at.segment at.segments.now c.get.result.now c.get.ensures many
    ∙ c.loop-self.invariant

pub returns : goal.returns
returns c =
    let at = c.loop-self.self in
    let past : length at.segments.now ≤ at.segment = omega (arith, c.len.ensures, c.loop-self-test.false) in
    none_skipped c.loop-self.left (rows_left at) (drop c.args.count (rows_left c.args.self.now)) (none_left at.taken at.segment at.segments.now past) c.loop-self.invariant
