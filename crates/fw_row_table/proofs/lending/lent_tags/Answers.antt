use Rattle.std.proofs.Common.{◌≡◌, ◌∙◌, ap, sym, get_or, []}
use Rattle.std.proofs.lemmas.List.{get_or_read}
use Rattle.std.proofs.lemmas.Option.{get_or_from_slice_get}
use Rattle.fw_row_table.specs.Table.{tags_of, list_at}
use Rattle.fw_row_table.proofs.lending.lent_tags.Goals as goal

pub returns : goal.returns
unfolding list_at
returns c =
    let t = c.args.table.now in
    let i = c.args.place in
    let list : c.list.result.now ≡ get_or t.lists (get_or t.tags.items i 0) [] =
    sym (get_or_from_slice_get t.lists _ _ [] c.list.ensures) ∙ ap (λ place. get_or t.lists place []) (get_or_read t.tags.items i _ c.requires.tags c.index.ensures 0) in
    ap (tags_of t.names) list
