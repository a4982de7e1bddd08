use Rattle.std.proofs.Common.{◌≡◌, ◌∙◌, ◌<◌, ap, sym, subst, get_or, ℕ, List, [], length, false}
use Rattle.std.specs.Prelude.{ℤ, pos, nat_abs}
use Rattle.std.proofs.lemmas.List.{get_or_read}
use Rattle.std.proofs.lemmas.List.Elements.{All-same}
use Rattle.std.proofs.lemmas.Option.{get_or_from_slice_get}
use Rattle.fw_charge.proofs.ChargeFacts.{equal_fields}
use Rattle.fw_charge.specs.Tags.{IsTags}
use Rattle.fw_row_table.specs.Table.{charge_at, category_at, class_at, text_of, discount_of, quantity_of, tags_of, list_at}
use Rattle.fw_row_table.proofs.reading.fields_at.Goals as goal

pub tags_of-requires-clause-within : goal.tags_of-requires-clause-within
unfolding list_at
tags_of-requires-clause-within c =
    let t = c.args.table.now in
    let i = c.args.place in
    let here : c.list.result.now ≡ list_at t i =
    sym (get_or_from_slice_get t.lists _ _ [] c.list.ensures) ∙ ap (λ place. get_or t.lists place []) (get_or_read t.tags.items i _ c.requires.tags c.index-5.ensures 0) in
    All-same (λ place. place < length t.names) c.list.result.now (list_at t i) here c.requires.list_within

pub tags_of-requires-clause-tags : goal.tags_of-requires-clause-tags
unfolding list_at
tags_of-requires-clause-tags c =
    let t = c.args.table.now in
    let i = c.args.place in
    let here : c.list.result.now ≡ list_at t i =
    sym (get_or_from_slice_get t.lists _ _ [] c.list.ensures) ∙ ap (λ place. get_or t.lists place []) (get_or_read t.tags.items i _ c.requires.tags c.index-5.ensures 0) in
    let AreTags : List ℕ → Type 0 = λ list. IsTags (tags_of t.names list) in
    subst AreTags (sym here) c.requires.list_tags

pub returns : goal.returns
unfolding charge_at list_at
returns c =
    let t = c.args.table.now in
    let i = c.args.place in
    let there = λ (xs : List ℤ). get_or xs i (pos 0) in
    let e1 = c.amount_at.ensures ∙ ap there c.as_slice.ensures.value in
    let e2 = c.amount_at-2.ensures ∙ ap there c.as_slice-2.ensures.value in
    let e3 = c.category_at.ensures ∙ ap (λ (codes : List ℕ). category_at (get_or codes i 0)) c.as_slice-3.ensures.value in
    let e4 = c.class_at.ensures ∙ ap (λ (codes : List ℕ). class_at (get_or codes i 0)) c.as_slice-4.ensures.value in
    let e5 = c.second_at.ensures ∙ ap nat_abs (ap there c.as_slice-5.ensures.value) in
    let e6 = get_or_read t.ends.items i _ c.requires.ends c.index-6.ensures 0 in
    let id = c.in_ok-id.ensures ∙ ap (text_of t.names) (get_or_read t.discounts.items i _ c.requires.discounts c.index.ensures 0) in
    let kind = get_or_read t.kinds.items i _ c.requires.kinds c.index-7.ensures 0 in
    let status = get_or_read t.statuses.items i _ c.requires.statuses c.index-8.ensures 0 in
    let is_there = get_or_read t.has_quantity.items i _ c.requires.has_quantity c.index-9.ensures false in
    let count = c.amount_at-3.ensures ∙ ap there c.as_slice-6.ensures.value in
    let e7 = c.discount_of.ensures ∙ (λ j. discount_of (id j) (kind j) (status j)) in
    let e8 = c.quantity_of.ensures ∙ (λ j. quantity_of (is_there j) (count j)) in
    let e9 = c.in_ok-unit.ensures ∙ ap (text_of t.names) (get_or_read t.units.items i _ c.requires.units c.index-2.ensures 0) in
    let e10 = c.in_ok-sku.ensures ∙ ap (text_of t.names) (get_or_read t.skus.items i _ c.requires.skus c.index-3.ensures 0) in
    let e11 = c.in_ok-sub_account.ensures ∙ ap (text_of t.names) (get_or_read t.sub_accounts.items i _ c.requires.sub_accounts c.index-4.ensures 0) in
    let list : c.list.result.now ≡ get_or t.lists (get_or t.tags.items i 0) [] =
    sym (get_or_from_slice_get t.lists _ _ [] c.list.ensures) ∙ ap (λ place. get_or t.lists place []) (get_or_read t.tags.items i _ c.requires.tags c.index-5.ensures 0) in
    let e12 = c.in_ok-tags.ensures ∙ ap (tags_of t.names) list in
    equal_fields _ _ e1 e2 e3 e4 e5 e6 e7 e8 e9 e10 e11 e12
