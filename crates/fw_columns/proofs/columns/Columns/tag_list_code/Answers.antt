use Rattle.std.proofs.Common.{rules, ◌≡◌, ◌∙◌, ◌<◌, ℕ, List, [], Some, length, get_or, ap, sym, subst}
use Rattle.std.specs.Prelude.{slice_get}
use Rattle.std.proofs.lemmas.List.{get_or_read}
use Rattle.std.proofs.lemmas.Option.{slice_get-get_or}
use Rattle.fw_charge.specs.Charge.{Charge}
use Rattle.fw_row_table.specs.Lists.{lists_of, tag_lists}
use Rattle.fw_row_table.specs.Reading.{HasRow}
use Rattle.fw_row_table.specs.Table.{rows_of, list_at}
use Rattle.fw_row_table.specs.Texts.{names_of, with_texts}
use Rattle.fw_row_table.proofs.RowFacts.{has_row}
use Rattle.fw_columns.proofs.KeptFacts.{list_there}
use Rattle.fw_columns.proofs.columns.Columns.tag_list_code.Goals as goal
use Rattle.fw_columns.proofs.columns.Columns.tag_list_code.Goals.{After-table}

within : (c : After-table) → c.args.place < length (rows_of c.table.result.now)
within c = subst (λ (rows : List Charge). c.args.place < length rows) (sym c.table.ensures.rows) c.requires

row : (c : After-table) → HasRow c.table.result.now c.args.place
row c = has_row c.table.result.now (rows_of c.table.result.now) c.table.ensures.columns c.args.place (within c)

pub index-requires : goal.index-requires
index-requires c = let there : c.args.place < length c.table.result.now.tags.items = (row c).tags in search rules

pub returns : goal.returns
unfolding list_at
returns c =
    let t = c.table.result.now in
    let kept = (goal.at.returns c).After-table in
    let there = row kept in
    let rows = rows_of t in
    let code : c.index.result.now ≡ get_or t.tags.items c.args.place 0 = get_or_read t.tags.items c.args.place _ there.tags c.index.ensures 0 in
    let lists : t.lists ≡ tag_lists rows = kept.table.ensures.columns.lists ∙ ap (λ names. with_texts [] (lists_of names rows)) kept.table.ensures.columns.names in
    let found : slice_get t.lists c.index.result.now ≡ Some (list_at t c.args.place) = ap (slice_get t.lists) code ∙ slice_get-get_or t.lists (get_or t.tags.items c.args.place 0) [] there.list in
    let of_row : slice_get (lists_of t.names rows) c.args.place ≡ Some (list_at t c.args.place) = list_there t rows kept.table.ensures.columns c.args.place (within kept) in
    let same : slice_get (tag_lists rows) c.index.result.now ≡ slice_get (lists_of (names_of rows) rows) c.args.place =
    ap (λ (l : List (List ℕ)). slice_get l c.index.result.now) (sym lists) ∙ found ∙ sym of_row ∙ ap (λ names. slice_get (lists_of names rows) c.args.place) kept.table.ensures.columns.names in
    subst (λ (rs : List Charge). slice_get (tag_lists rs) c.index.result.now ≡ slice_get (lists_of (names_of rs) rs) c.args.place) kept.table.ensures.rows same
