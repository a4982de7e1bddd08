use Rattle.std.proofs.Common.{rules, ◌≡◌, ◌∙◌, ◌<◌, ◌≤◌, ◌/◌, ℕ, List, [], Some, length, get_or, slice_get, All, ap, sym, subst}
use Rattle.std.proofs.lemmas.List.{get_or_read}
use Rattle.std.proofs.lemmas.Option.{get_or_from_slice_get}
use Rattle.fw_charge.specs.Charge.{Charge}
use Rattle.fw_charge.specs.Tags.{most_tags}
use Rattle.fw_row_table.specs.Lists.{lists_of}
use Rattle.fw_row_table.specs.Names.{Text}
use Rattle.fw_row_table.specs.Reading.{HasRow}
use Rattle.fw_row_table.specs.Table.{rows_of, list_at, tags_of}
use Rattle.fw_row_table.specs.Texts.{names_of}
use Rattle.fw_row_table.proofs.LendingFacts.{tags_counted}
use Rattle.fw_row_table.proofs.RowFacts.{has_row}
use Rattle.fw_columns.proofs.KeptFacts.{list_there}
use Rattle.fw_columns.proofs.columns.Columns.tag_places.Goals as goal
use Rattle.fw_columns.proofs.columns.Columns.tag_places.Goals.{After-table-kept, After-list}

-- the columns have a row at the place

within : (c : After-table-kept) → c.args.place < length (rows_of c.table-kept.result.now)
within c = subst (λ (rows : List Charge). c.args.place < length rows) (sym c.table-kept.ensures.rows) c.requires

row : (c : After-table-kept) → HasRow c.table-kept.result.now c.args.place
row c = has_row c.table-kept.result.now (rows_of c.table-kept.result.now) c.table-kept.ensures.columns c.args.place (within c)

-- the list that is returned is that of the row, and its places are those of the names

list_is : (c : After-list) → HasRow c.table-kept.result.now c.args.place → c.list.result.now ≡ list_at c.table-kept.result.now c.args.place
unfolding list_at
list_is c there =
    let t = c.table-kept.result.now in
    sym (get_or_from_slice_get t.lists _ _ [] c.list.ensures) ∙ ap (λ place. get_or t.lists place []) (get_or_read t.tags.items c.args.place _ there.tags c.index.ensures 0)

names_are : (c : After-table-kept) → c.table-kept.result.now.names ≡ names_of c.args.self.now
names_are c = c.table-kept.ensures.columns.names ∙ ap names_of c.table-kept.ensures.rows

pub index-requires : goal.index-requires
index-requires c = let there : c.args.place < length c.table-kept.result.now.tags.items = (row c).tags in search rules

pub list-requires : goal.list-requires
list-requires c =
    let t = c.table-kept.result.now in
    let there = row (goal.at.list-requires c).After-table-kept in
    subst (λ (place : ℕ). place < length t.lists) (sym (get_or_read t.tags.items c.args.place _ there.tags c.index.ensures 0)) there.list

pub returns-clause-places : goal.returns-clause-places
returns-clause-places c =
    let t = c.table-kept.result.now in
    let at = goal.at.returns-clause-places c in
    let kept = at.After-table-kept in
    let list = list_is at.After-list (row kept) in
    let same = names_are kept in
    sym (λ j. slice_get (lists_of (same j) (c.table-kept.ensures.rows j)) c.args.place) ∙ (list_there t (rows_of t) c.table-kept.ensures.columns c.args.place (within kept) ∙ ap Some (sym list))

pub returns-clause-within : goal.returns-clause-within
returns-clause-within c =
    let t = c.table-kept.result.now in
    let at = goal.at.returns-clause-within c in
    let there = row at.After-table-kept in
    let AreWithin : List Text → Type 0 = λ names. All (λ one. one < length names) c.list.result.now in
    subst AreWithin (names_are at.After-table-kept) (subst (λ places. All (λ one. one < length t.names) places) (sym (list_is at.After-list there)) there.list_within)

pub returns-clause-few : goal.returns-clause-few
returns-clause-few c =
    let t = c.table-kept.result.now in
    let at = goal.at.returns-clause-few c in
    let there = row at.After-table-kept in
    let few : length (tags_of t.names (list_at t c.args.place)) ≤ most_tags = there.list_tags.few in
    subst (λ places. length places / 2 ≤ most_tags) (sym (list_is at.After-list there)) (rw (tags_counted t.names (list_at t c.args.place)) few)
