use Rattle.std.proofs.Common.{◌≡◌, ◌∙◌, ◌≤◌, ℕ, length, take, sym, ap, arith}
use Rattle.fw_snapshot.specs.Heads.{row_count}
use Rattle.fw_entries.specs.RowsLeft.{rows_left}
use Rattle.fw_entries.proofs.Left.{next_rows, no_rows, split_at}
use Rattle.fw_entries.proofs.entries_left.EntriesLeft.runs.Goals as goal

pub returns-then-self-len : goal.returns-then-self-len
returns-then-self-len c =
    let old = c.self.inside in
    let past : length old.heads.now ≤ old.taken = omega (arith, c.len.ensures, c.if-self-len.true) in
    c.of.ensures ∙ sym (no_rows old.heads.now (rows_left old.rows) old.taken c.args.self.now past c.self.view_is)

pub returns : goal.returns
returns c =
    let old = c.self.inside in
    let h = c.get.result.now in
    let split = split_at old.heads.now (rows_left old.rows) old.taken h c.get.ensures in
    c.of-2.ensures
    ∙ ap (λ (n : ℕ). take n (rows_left old.rows)) (c.row_count.ensures ∙ ap row_count c.content.ensures)
    ∙ sym (next_rows old.heads.now (rows_left old.rows) old.taken h c.args.self.now split c.self.view_is)
