use Rattle.std.proofs.Common.{◌≡◌, ◌∙◌, ◌++◌, ◌-◌, ◌≤◌, ℕ, length, take, sym, ap, arith}
use Rattle.fw_entries.specs.RowsLeft.{rows_left}
use Rattle.fw_entries.specs.Runs.{run_rows}
use Rattle.fw_entries.proofs.Left.{length_of_run, run_of_entry}
use Rattle.fw_entries.proofs.runs.Runs.next.Goals as goal

pub returns-clause-taken : goal.returns-clause-taken
returns-clause-taken c =
    let old = c.self.inside in
    let run = c.in_ok-run.run' in
    let rest = rows_left c.next_run.new.self in
    let size : length (run_rows run) ≡ run.end - run.first = length_of_run run.columns.now run.first run.end (omega (arith, c.in_ok-run.ensures.some)) c.in_ok-run.ensures.within in
    sym c.self.view_is
    ∙ run_of_entry (rows_left old.rows) (run_rows run) rest old.left c.in_ok-run.ensures.taken (omega (arith, size, c.in_ok-run.ensures.few))
    ∙ ap (λ (n : ℕ). run_rows run ++ take (old.left - n) rest) size
