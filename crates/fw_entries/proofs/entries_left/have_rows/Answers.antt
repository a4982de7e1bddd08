use Rattle.std.proofs.Common.{◌≡◌, ◌∙◌, ◌++◌, ◌-◌, ◌+◌, List, drop, take, sym, ap, append_assoc, arith}
use Rattle.std.proofs.Math.Seq.{take-add}
use Rattle.fw_charge.specs.Charge.{Charge}
use Rattle.fw_entries.specs.Runs.{run_rows}
use Rattle.fw_entries.proofs.entries_left.have_rows.Goals as goal

pub loop-run-preserved : goal.loop-run-preserved
loop-run-preserved c =
    let run = c.in-Some.run' in
    let rows = c.args.rows.now in
    let place = c.loop-run.place in
    let count = run.end - run.first in
    let later = c.next.new.self in
    let same : run_rows run ≡ take count (drop place rows) = c.are_same_runs.ensures.0 c.if-not-are_same_runs.false in
    let behind = take count (drop place rows) in (
      c.loop-run.invariant.0
          ∙ ap (λ (l : List Charge). take place rows ++ l) (c.in-Some.ensures.taken ∙ ap (λ (l : List Charge). l ++ later) same)
          ∙ sym (append_assoc (take place rows) behind later)
          ∙ ap (λ (l : List Charge). l ++ later) (sym (take-add place count rows)),
      omega (arith, c.if-len-place.false, c.len.ensures.count),
    )
