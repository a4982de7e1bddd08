use Rattle.std.proofs.Common.{◌∙◌, sym, true≢false}
use Rattle.fw_columns.specs.Parts.{lists_there}
use Rattle.fw_columns.proofs.PartColumns.{lists_within, are_columns_of_rows}
use Rattle.fw_columns.proofs.PartRows.{are_tag_lists, have_rows}
use Rattle.fw_columns.proofs.checking.are_columns.Goals as goal

pub have_rows-requires-clause-tags : goal.have_rows-requires-clause-tags
have_rows-requires-clause-tags c = let t = c.args.table.now in lists_within t.lists t.tags.items (lists_there t.lists t.tags.items) c.requires.numbered

pub returns-clause-columns : goal.returns-clause-columns
returns-clause-columns c = λ h.
    let t = c.args.table.now in
    are_columns_of_rows t c.requires.fields c.requires.numbered (c.are_tag_lists.ensures.0 c.if-not-are_tag_lists.false) (c.have_rows.ensures.0 h) c.len-names.ensures.each_once c.requires.few

-- ---- what the columns of rows pass

pub returns-then-not-are_tag_lists-clause-of_rows : goal.returns-then-not-are_tag_lists-clause-of_rows
returns-then-not-are_tag_lists-clause-of_rows c = λ rows columns. absurd (true≢false (sym (c.are_tag_lists.ensures.1 (are_tag_lists c.args.table.now rows columns)) ∙ c.if-not-are_tag_lists.true))

pub returns-clause-of_rows : goal.returns-clause-of_rows
returns-clause-of_rows c = λ rows columns. c.have_rows.ensures.1 (have_rows c.args.table.now rows columns)
