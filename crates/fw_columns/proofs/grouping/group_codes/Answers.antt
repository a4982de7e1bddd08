use Rattle.std.proofs.Common.{◌≡◌, ◌∙◌, ◌<◌, ◌++◌, ℕ, [], length, map, ap, subst, sym}
use Rattle.std.specs.Prelude.{All}
use Rattle.std.proofs.lemmas.List.{length-map}
use Rattle.std.proofs.lemmas.List.Elements.{All-same}
use Rattle.fw_row_table.specs.Names.{place_of}
use Rattle.fw_columns.specs.Joining.{replaced}
use Rattle.fw_columns.specs.Grouping.{found_code}
use Rattle.fw_row_table.specs.Table.{rows_of}
use Rattle.fw_columns.proofs.JoinFacts.{tags_within}
use Rattle.fw_columns.proofs.GroupFacts.{groups_shown, lists_few}
use Rattle.fw_columns.proofs.grouping.group_codes.Goals as goal

pub list_codes-requires : goal.list_codes-requires
list_codes-requires c = lists_few c.args.table.now (rows_of c.args.table.now) c.requires

pub push_replaced-requires : goal.push_replaced-requires
push_replaced-requires c =
    let t = c.args.table.now in
    let values = c.as_slice-2.result.now in
    let size : length values ≡ length t.lists = ap length c.as_slice-2.ensures.value ∙ (ap length c.in_ok-by_list.ensures ∙ length-map t.lists _) in
    let Within : ℕ → Type 0 = λ n. All (λ place. place < n) t.tags.items in
    All-same (λ place. place < length values) c.as_slice.result.now t.tags.items c.as_slice.ensures.value (subst Within (sym size) (tags_within t (rows_of t) c.requires))

pub returns : goal.returns
returns c =
    let t = c.args.table.now in
    let by_list : c.in_ok-by_list.by_list.items ≡ map (found_code (place_of t.names c.args.key.now) (place_of t.names [])) t.lists =
    c.in_ok-by_list.ensures ∙ (λ j. map (found_code (c.place-key.ensures.place j) (c.place-empty.ensures.place j)) t.lists) in
    c.in_ok-push_replaced.ensures
    ∙ ((λ j. c.in_ok-codes.ensures.items j ++ replaced (c.as_slice-2.ensures.value j) (c.as_slice.ensures.value j))
    ∙ (ap (λ values. replaced values t.tags.items) by_list ∙ groups_shown t (rows_of t) c.requires c.args.key.now))
