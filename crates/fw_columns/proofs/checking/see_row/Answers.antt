use Rattle.std.proofs.Common.{◌≡◌, ◌<◌, ◌≤◌, ◌++◌, ℕ, List, [], length, get_or, map, subst, ap, arith}
use Rattle.std.specs.Prelude.{All, IfNone, IfSome, option_to_list}
use Rattle.std.proofs.lemmas.List.{get_or_read}
use Rattle.fw_row_table.specs.Names.{Text}
use Rattle.fw_row_table.specs.Table.{text_at, text_of, list_at}
use Rattle.fw_row_table.specs.declared.table.Table.{Table}
use Rattle.fw_columns.specs.Parts.{AreOutOfTurn, HaveSeen, texts_there}
use Rattle.fw_columns.proofs.PartFacts.{lists_stay, out_behind, out_in_turn, out_more, seen_in_turn}
use Rattle.fw_columns.proofs.checking.see_row.Goals as goal

-- the text of the code at the place of a row, if it has one
abbrev text_there : Table → List ℕ → ℕ → List Text
text_there t codes i = option_to_list (text_of t.names (get_or codes i 0))

-- what holds of the text of the code that was read there
at_row : (t : Table) (P : List Text → Type 0) (codes : List ℕ) (i r : ℕ) → i < length t.billed.items → length codes ≡ length t.billed.items → r ≡ get_or codes i r → P (option_to_list (text_of t.names r))
    → P (text_there t codes i)
at_row t P codes i r lt size is h = subst (λ (code : ℕ). P (option_to_list (text_of t.names code))) (get_or_read codes i r (omega (arith, size, lt)) is 0) h

-- where one text of a row is out of turn, so are all of them
module _ (t : Table) (i a : ℕ) where
  abbrev id : List Text
  id = text_there t t.discounts.items i

  abbrev unit : List Text
  unit = text_there t t.units.items i

  abbrev sku : List Text
  sku = text_there t t.skus.items i

  abbrev account : List Text
  account = text_there t t.sub_accounts.items i

  abbrev tags : List Text
  tags = map (text_at t.names) (list_at t i)

  out_id : AreOutOfTurn t.names a id → AreOutOfTurn t.names a (texts_there t i)
  unfolding texts_there
  out_id out = out_more t.names a id (unit ++ (sku ++ (account ++ tags))) out

  out_unit : (b : ℕ) → HaveSeen t.names a b id → AreOutOfTurn t.names b unit → AreOutOfTurn t.names a (texts_there t i)
  unfolding texts_there
  out_unit b one out = out_behind t.names a b id (unit ++ (sku ++ (account ++ tags))) one (out_more t.names b unit (sku ++ (account ++ tags)) out)

  out_sku : (b c : ℕ) → HaveSeen t.names a b id → HaveSeen t.names b c unit → AreOutOfTurn t.names c sku → AreOutOfTurn t.names a (texts_there t i)
  unfolding texts_there
  out_sku b c one two out =
      out_behind t.names a b id (unit ++ (sku ++ (account ++ tags))) one
      (out_behind t.names b c unit (sku ++ (account ++ tags)) two (out_more t.names c sku (account ++ tags) out))

  out_account : (b c d : ℕ) → HaveSeen t.names a b id → HaveSeen t.names b c unit → HaveSeen t.names c d sku → AreOutOfTurn t.names d account → AreOutOfTurn t.names a (texts_there t i)
  unfolding texts_there
  out_account b c d one two three out =
      out_behind t.names a b id (unit ++ (sku ++ (account ++ tags))) one
      (out_behind t.names b c unit (sku ++ (account ++ tags)) two (out_behind t.names c d sku (account ++ tags) three (out_more t.names d account tags out)))

pub returns-in_err-seen-clause-none : goal.returns-in_err-seen-clause-none
returns-in_err-seen-clause-none c =
    let t = c.args.table.now in
    let i = c.args.place in
    let within = c.requires.within in
    let all = c.requires.fields.sizes in
    let out = at_row t (AreOutOfTurn t.names c.args.seen) t.discounts.items i _ within all.discounts c.index.ensures c.in_err-seen.ensures.none in
    rw c.from_residual.ensures (out_id t i c.args.seen out)

pub returns-in_err-seen-2-clause-none : goal.returns-in_err-seen-2-clause-none
returns-in_err-seen-2-clause-none c =
    let t = c.args.table.now in
    let i = c.args.place in
    let within = c.requires.within in
    let all = c.requires.fields.sizes in
    let one = at_row t (HaveSeen t.names c.args.seen c.in_ok-seen.seen) t.discounts.items i _ within all.discounts c.index.ensures c.in_ok-seen.ensures.some in
    let out = at_row t (AreOutOfTurn t.names c.in_ok-seen.seen) t.units.items i _ within all.units c.index-2.ensures c.in_err-seen-2.ensures.none in
    rw c.from_residual-in_err-seen-2.ensures (out_unit t i c.args.seen c.in_ok-seen.seen one out)

pub returns-in_err-seen-3-clause-none : goal.returns-in_err-seen-3-clause-none
returns-in_err-seen-3-clause-none c =
    let t = c.args.table.now in
    let i = c.args.place in
    let within = c.requires.within in
    let all = c.requires.fields.sizes in
    let one = at_row t (HaveSeen t.names c.args.seen c.in_ok-seen.seen) t.discounts.items i _ within all.discounts c.index.ensures c.in_ok-seen.ensures.some in
    let two = at_row t (HaveSeen t.names c.in_ok-seen.seen c.in_ok-seen-2.seen) t.units.items i _ within all.units c.index-2.ensures c.in_ok-seen-2.ensures.some in
    let out = at_row t (AreOutOfTurn t.names c.in_ok-seen-2.seen) t.skus.items i _ within all.skus c.index-3.ensures c.in_err-seen-3.ensures.none in
    rw c.from_residual-in_err-seen-3.ensures (out_sku t i c.args.seen c.in_ok-seen.seen c.in_ok-seen-2.seen one two out)

pub returns-in_err-seen-4-clause-none : goal.returns-in_err-seen-4-clause-none
returns-in_err-seen-4-clause-none c =
    let t = c.args.table.now in
    let i = c.args.place in
    let within = c.requires.within in
    let all = c.requires.fields.sizes in
    let one = at_row t (HaveSeen t.names c.args.seen c.in_ok-seen.seen) t.discounts.items i _ within all.discounts c.index.ensures c.in_ok-seen.ensures.some in
    let two = at_row t (HaveSeen t.names c.in_ok-seen.seen c.in_ok-seen-2.seen) t.units.items i _ within all.units c.index-2.ensures c.in_ok-seen-2.ensures.some in
    let three = at_row t (HaveSeen t.names c.in_ok-seen-2.seen c.in_ok-seen-3.seen) t.skus.items i _ within all.skus c.index-3.ensures c.in_ok-seen-3.ensures.some in
    let out = at_row t (AreOutOfTurn t.names c.in_ok-seen-3.seen) t.sub_accounts.items i _ within all.sub_accounts c.index-4.ensures c.in_err-seen-4.ensures.none in
    rw c.from_residual-in_err-seen-4.ensures (out_account t i c.args.seen c.in_ok-seen.seen c.in_ok-seen-2.seen c.in_ok-seen-3.seen one two three out)

pub returns-clause-some : goal.returns-clause-some
unfolding texts_there list_at
returns-clause-some c =
    let t = c.args.table.now in
    let i = c.args.place in
    let within = c.requires.within in
    let all = c.requires.fields.sizes in
    let one = at_row t (HaveSeen t.names c.args.seen c.in_ok-seen.seen) t.discounts.items i _ within all.discounts c.index.ensures c.in_ok-seen.ensures.some in
    let two = at_row t (HaveSeen t.names c.in_ok-seen.seen c.in_ok-seen-2.seen) t.units.items i _ within all.units c.index-2.ensures c.in_ok-seen-2.ensures.some in
    let three = at_row t (HaveSeen t.names c.in_ok-seen-2.seen c.in_ok-seen-3.seen) t.skus.items i _ within all.skus c.index-3.ensures c.in_ok-seen-3.ensures.some in
    let four = at_row t (HaveSeen t.names c.in_ok-seen-3.seen c.in_ok-seen-4.seen) t.sub_accounts.items i _ within all.sub_accounts c.index-4.ensures c.in_ok-seen-4.ensures.some in
    let list : get_or t.lists c.index-5.result.now [] ≡ list_at t i = ap (λ place. get_or t.lists place []) (get_or_read t.tags.items i _ (omega (arith, all.tags, within)) c.index-5.ensures 0) in
    let five : IfSome c.see_tags.result (λ now. HaveSeen t.names c.in_ok-seen-4.seen now (map (text_at t.names) (list_at t i))) =
    subst (λ (xs : List ℕ). IfSome c.see_tags.result (λ now. HaveSeen t.names c.in_ok-seen-4.seen now (map (text_at t.names) xs))) list c.see_tags.ensures.some in
    seen_in_turn t.names c.args.seen c.in_ok-seen.seen c.in_ok-seen-2.seen c.in_ok-seen-3.seen c.in_ok-seen-4.seen _ _ _ _ _ one two three four c.see_tags.result five

pub returns-clause-none : goal.returns-clause-none
unfolding texts_there list_at
returns-clause-none c =
    let t = c.args.table.now in
    let i = c.args.place in
    let within = c.requires.within in
    let all = c.requires.fields.sizes in
    let one = at_row t (HaveSeen t.names c.args.seen c.in_ok-seen.seen) t.discounts.items i _ within all.discounts c.index.ensures c.in_ok-seen.ensures.some in
    let two = at_row t (HaveSeen t.names c.in_ok-seen.seen c.in_ok-seen-2.seen) t.units.items i _ within all.units c.index-2.ensures c.in_ok-seen-2.ensures.some in
    let three = at_row t (HaveSeen t.names c.in_ok-seen-2.seen c.in_ok-seen-3.seen) t.skus.items i _ within all.skus c.index-3.ensures c.in_ok-seen-3.ensures.some in
    let four = at_row t (HaveSeen t.names c.in_ok-seen-3.seen c.in_ok-seen-4.seen) t.sub_accounts.items i _ within all.sub_accounts c.index-4.ensures c.in_ok-seen-4.ensures.some in
    let list : get_or t.lists c.index-5.result.now [] ≡ list_at t i = ap (λ place. get_or t.lists place []) (get_or_read t.tags.items i _ (omega (arith, all.tags, within)) c.index-5.ensures 0) in
    let five : IfNone c.see_tags.result (AreOutOfTurn t.names c.in_ok-seen-4.seen (map (text_at t.names) (list_at t i))) =
    subst (λ (xs : List ℕ). IfNone c.see_tags.result (AreOutOfTurn t.names c.in_ok-seen-4.seen (map (text_at t.names) xs))) list c.see_tags.ensures.none in
    out_in_turn t.names c.args.seen c.in_ok-seen.seen c.in_ok-seen-2.seen c.in_ok-seen-3.seen c.in_ok-seen-4.seen _ _ _ _ _ one two three four c.see_tags.result five

pub see_tags-requires-clause-before : goal.see_tags-requires-clause-before
see_tags-requires-clause-before c =
    let grows : c.args.seen ≤ c.in_ok-seen-4.seen = omega (arith, c.in_ok-seen.ensures.grows, c.in_ok-seen-2.ensures.grows, c.in_ok-seen-3.ensures.grows, c.in_ok-seen-4.ensures.grows) in
    lists_stay c.args.table.now.lists c.args.lists_seen c.args.seen c.in_ok-seen-4.seen grows c.requires.before

pub returns-clause-list : goal.returns-clause-list
unfolding list_at
returns-clause-list c =
    let t = c.args.table.now in
    let list : get_or t.lists c.index-5.result.now [] ≡ list_at t c.args.place =
    ap (λ place. get_or t.lists place []) (get_or_read t.tags.items c.args.place _ (omega (arith, c.requires.fields.sizes.tags, c.requires.within)) c.index-5.ensures 0) in
    subst (λ (xs : List ℕ). IfSome c.see_tags.result (λ now. All (λ text. text < now) xs)) list c.see_tags.ensures.within
