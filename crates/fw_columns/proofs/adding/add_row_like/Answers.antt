use Rattle.std.proofs.Common.{◌<◌, length, rules}
use Rattle.std.proofs.lemmas.List.{get_or_read}
use Rattle.fw_row_table.specs.Table.{rows_of}
use Rattle.fw_columns.proofs.AddFacts.{pushed_like}
use Rattle.fw_row_table.proofs.RowFacts.{has_row}
use Rattle.fw_columns.proofs.adding.add_row_like.Goals as goal

pub index-list-requires : goal.index-list-requires
index-list-requires c =
    let t = c.args.table.now in let here : c.args.place < length t.tags.items = (has_row t (rows_of t) c.requires.columns c.args.place c.requires.place).tags in search rules

pub returns : goal.returns
returns c =
    let t = c.args.table.now in
    let here = (has_row t (rows_of t) c.requires.columns c.args.place c.requires.place).tags in
    pushed_like t (rows_of t) c.requires.columns c.args.place c.requires.place c.push_values.new.table c.args.row.now c.in_ok-codes.codes c.see_texts.new.names c.index-list.result.now
    c.in_ok-codes.ensures.seen c.in_ok-codes.ensures.codes (get_or_read t.tags.items c.args.place _ here c.index-list.ensures 0) c.requires.valid c.requires.few c.in_ok-codes.ensures.few c.in_ok-push_values.ensures
