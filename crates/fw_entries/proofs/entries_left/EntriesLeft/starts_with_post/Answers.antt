use Rattle.std.proofs.Common.{◌≡◌, ◌∙◌, ℕ, length, sym, ap}
use Rattle.fw_entry.specs.Entry.CommandValue.{post}
use Rattle.fw_entry.specs.View.{command_view}
use Rattle.fw_snapshot.specs.Heads.{HeadValue}
use Rattle.fw_snapshot.specs.Heads.ContentValue.{posted_rows}
use Rattle.fw_entries.specs.RowsLeft.{rows_left}
use Rattle.fw_entries.proofs.Left.{first_is_post, split_at}
use Rattle.fw_entries.proofs.entries_left.EntriesLeft.starts_with_post.Goals as goal

pub returns-then-has_front_of : goal.returns-then-has_front_of
returns-then-has_front_of c =
    let old = c.self.inside in
    let h = c.get.result.now in
    let e = c.args.post.now in
    let part = c.in-Post.rows in
    let split = split_at old.heads.now (rows_left old.rows) old.taken h c.get.ensures in
    let front : h ≡ record { origin = e.origin; seq = e.seq; content = posted_rows (length part) } =
    c.has_front_of.ensures c.if-has_front_of.true ∙ ap (λ (n : ℕ). record { origin = e.origin; seq = e.seq; content = posted_rows n }) c.len-2.ensures.count in
    let command : e.command ≡ post part = sym c.command.ensures.command ∙ ap command_view c.in-Post.is in
    λ yes. first_is_post old.heads.now (rows_left old.rows) part old.taken h c.args.self.now e split c.self.view_is front (sym c.runs.ensures ∙ c.have_rows.ensures yes) command
