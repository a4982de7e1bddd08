use Rattle.std.proofs.Common.{◌≡◌, ◌∙◌, ◌+◌, ◌≤◌, length, take, drop, sym, ap, arith}
use Rattle.fw_stored_rows.proofs.RowFacts.{run_more, same_run}
use Rattle.fw_stored_rows.proofs.stored.StoredRows.has_at.Goals as goal

pub returns-then-not-are_same_runs : goal.returns-then-not-are_same_runs
returns-then-not-are_same_runs c = (
  λ holds. absurd (cc),
  λ is. absurd (
      let part = c.args.part.now in
      let place = c.args.first + c.loop-done.done in
      let run = c.min-run.result in
      let fits : c.row_in-from.result.1 + run ≤ length c.row_in-from.result.0.now = omega (arith, c.row_in-from.ensures.within, c.len-in-loop-done.ensures.count, c.min-run.ensures) in
      let within : c.loop-done.done + run ≤ length part = omega (arith, c.min-run.ensures, c.loop-done.invariant.within, c.len-count.ensures.count) in
      let there : take run (drop c.row_in-from.result.1 c.row_in-from.result.0.now) ≡ take run (drop place c.args.self.now) =
      c.row_in-from.ensures.rows run fits ∙ ap (λ rows. take run (drop place rows)) c.self.view_is in
      let found = c.are_same_runs.ensures.1 (there ∙ same_run part c.args.self.now c.args.first c.loop-done.done run within is) in
      cc
      ),
)

pub loop-done-preserved : goal.loop-done-preserved
loop-done-preserved c =
    let part = c.args.part.now in
    let place = c.args.first + c.loop-done.done in
    let run = c.min-run.result in
    let fits : c.row_in-from.result.1 + run ≤ length c.row_in-from.result.0.now = omega (arith, c.row_in-from.ensures.within, c.len-in-loop-done.ensures.count, c.min-run.ensures) in
    let there : take run (drop c.row_in-from.result.1 c.row_in-from.result.0.now) ≡ take run (drop place c.args.self.now) =
    c.row_in-from.ensures.rows run fits ∙ ap (λ rows. take run (drop place rows)) c.self.view_is in
    record {
      same =
          run_more part c.args.self.now c.args.first c.loop-done.done run
          (sym there ∙ c.are_same_runs.ensures.0 c.if-not-are_same_runs.false) c.loop-done.invariant.same;
      within = omega (arith, c.min-run.ensures, c.loop-done.invariant.within, c.len-count.ensures.count);
    }
