use Rattle.std.proofs.Common.{◌≡◌, ◌∙◌, ◌+◌, ℕ, drop, ap}
use Rattle.fw_snapshot.specs.Heads.{entries_of, row_count}
use Rattle.fw_entries.specs.RowsLeft.{rows_left}
use Rattle.fw_entries.proofs.Left.{first_and_rest, keeps_next, rest_is, split_at}
use Rattle.fw_entries.proofs.entries_left.EntriesLeft.skip.Goals as goal
use Rattle.fw_entries.proofs.entries_left.EntriesLeft.skip.Goals.{After-skip_front}

behind : (c : After-skip_front) → rows_left c.skip_front.new.self ≡ drop (row_count c.get-head.result.now.content) (rows_left c.self.inside.rows)
behind c = c.skip_front.ensures ∙ ap (λ (n : ℕ). drop n (rows_left c.self.inside.rows)) (c.row_count.ensures ∙ ap row_count c.content.ensures)

pub invariant_of-self : goal.invariant_of-self
invariant_of-self c =
    let old = c.self.inside in
    let h = c.get-head.result.now in
    let split = split_at old.heads.now (rows_left old.rows) old.taken h c.get-head.ensures in
    let keeps = keeps_next old.heads.now (rows_left old.rows) (rows_left c.skip_front.new.self) old.taken h split (behind (goal.at.invariant_of-self c).After-skip_front) c.self.invariant.each c.self.invariant.heads in
    record { each = keeps.0; heads = keeps.1 }

pub returns : goal.returns
returns c =
    let old = c.self.inside in
    let h = c.get-head.result.now in
    let split = split_at old.heads.now (rows_left old.rows) old.taken h c.get-head.ensures in
    rest_is c.args.self.now (entries_of (drop (old.taken + 1) old.heads.now) (rows_left c.skip_front.new.self)) _
    (first_and_rest old.heads.now (rows_left old.rows) (rows_left c.skip_front.new.self) old.taken h c.args.self.now split (behind (goal.at.returns c).After-skip_front) c.self.view_is)
