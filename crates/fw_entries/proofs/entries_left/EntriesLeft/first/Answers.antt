use Rattle.std.proofs.Common.{◌≡◌, ◌∙◌, Some, sym, ap}
use Rattle.fw_entries.specs.RowsLeft.{rows_left}
use Rattle.fw_entries.proofs.Left.{first_is, split_at}
use Rattle.fw_entries.proofs.entries_left.EntriesLeft.first.Goals as goal

pub entry_of-requires : goal.entry_of-requires
entry_of-requires c =
    let old = c.self.inside in
    (split_at old.heads.now (rows_left old.rows) old.taken c.get.result.now c.get.ensures).entry c.self.invariant.each

pub returns : goal.returns
returns c =
    let old = c.self.inside in
    let split = split_at old.heads.now (rows_left old.rows) old.taken c.get.result.now c.get.ensures in
    ap Some c.in_ok-entry.ensures.entry ∙ sym (first_is old.heads.now (rows_left old.rows) old.taken c.get.result.now c.args.self.now split c.self.view_is)
