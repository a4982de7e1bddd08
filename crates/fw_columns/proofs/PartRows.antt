-- The columns of rows pass all that parts are checked for.
use Rattle.std.proofs.Common.{◌≡◌, ◌∙◌, ℕ, ◌*◌, ◌/◌, ◌<◌, List, [], ◌∷◌, length, get_or, map, sym, ap, subst, arith}
use Rattle.std.specs.Prelude.{All, pos}
use Rattle.std.proofs.lemmas.List.{get_or-map, length-map}
use Rattle.std.proofs.lemmas.List.Elements.{All-nil, All-cons, All-head, All-tail}
use Rattle.fw_charge.specs.Charge.{Charge, IsCharge}
use Rattle.fw_charge.specs.Tags.{IsTags}
use Rattle.fw_row_table.specs.Lists.{tag_places, lists_of}
use Rattle.fw_row_table.specs.Names.{Text, place_of}
use Rattle.fw_row_table.specs.Table.{AreColumns, kind_kept, status_kept, quantity_kept, charge_at, rows_of}
use Rattle.fw_row_table.specs.Texts.{with_texts, texts_of, texts_of_tags, names_of}
use Rattle.fw_row_table.specs.declared.table.Table.{Table}
use Rattle.fw_columns.specs.Parts.{AgreeAt, IsTagList, HaveRows, texts_there}
use Rattle.fw_row_table.proofs.ListFacts.{with_texts-all}
use Rattle.fw_row_table.proofs.RowFacts.{row_charge}
use Rattle.fw_row_table.proofs.TableFacts.{list-shown, row-shown, rows_known, shown, tags-back}
use Rattle.fw_row_table.proofs.TextFacts.{IsRowKnown}
use Rattle.fw_columns.proofs.PartFacts.{codes_agree}
use Rattle.fw_columns.proofs.PartColumns.{texts_everywhere, texts_here, two_each}

-- the list of the tags of a row
tag_list : (names : List Text) (c : Charge) → IsCharge c → IsRowKnown names c → IsTagList names (tag_places names c.tags)
tag_list names c is known = subst IsTags (sym (tags-back names c.tags known.tags)) is.tags

list_even : (names : List Text) (c : Charge) → 2 * (length (tag_places names c.tags) / 2) ≡ length (tag_places names c.tags)
unfolding tag_places
list_even names c =
    let texts = texts_of_tags c.tags in
    let size : length (map (place_of names) texts) ≡ length texts = length-map texts (place_of names) in
    omega (arith, size, two_each c.tags)

tag_lists : (names : List Text) (rows : List Charge) → All IsCharge rows → All (IsRowKnown names) rows → All (IsTagList names) (lists_of names rows)
unfolding lists_of
tag_lists names [] are known = All-nil (IsTagList names)
tag_lists names (r ∷ rs) are known =
    All-cons (IsTagList names) (tag_places names r.tags) (lists_of names rs) (tag_list names r (All-head IsCharge r rs are) (All-head (IsRowKnown names) r rs known))
    (tag_lists names rs (All-tail IsCharge r rs are) (All-tail (IsRowKnown names) r rs known))

module _ (t : Table) (rows : List Charge) (columns : AreColumns t rows) where
  pub count_is : length t.billed.items ≡ length rows
  count_is = ap length columns.billed ∙ length-map rows (λ (c : Charge). c.billed)

  pub are_tag_lists : All (IsTagList t.names) t.lists
  are_tag_lists =
      let all = with_texts-all (IsTagList t.names) [] (lists_of t.names rows) (All-nil (IsTagList t.names)) (tag_lists t.names rows columns.charges (rows_known t rows columns)) in
      subst (All (IsTagList t.names)) (sym columns.lists) all

  module _ (i : ℕ) (h : i < length rows) where
    column_at : {A : Type 0} (xs : List A) (f : Charge → A) (d : Charge) (e : A) → xs ≡ map f rows → get_or xs i e ≡ f (get_or rows i d)
    column_at xs f d e is = ap (λ ys. get_or ys i e) is ∙ get_or-map f rows i d e h

    agree_at : AgreeAt t i
    unfolding charge_at
    agree_at =
        let d = charge_at t i in
        let there = row-shown t rows columns i d h in
        let is = row_charge t rows columns i h in
        let kind = column_at t.kinds.items (λ c. kind_kept c.discount) d 0 columns.kinds in
        let status = column_at t.statuses.items (λ c. status_kept c.discount) d 0 columns.statuses in
        let count = column_at t.quantities.items (λ c. quantity_kept c.quantity) d (pos 0) columns.quantities in
        record {
          period = is.ordered;
          discount =
              codes_agree t.names _ _ _ _ is.discount (ap (λ (c : Charge). kind_kept c.discount) there ∙ sym kind)
              (ap (λ (c : Charge). status_kept c.discount) there ∙ sym status);
          quantity = ap (λ (c : Charge). quantity_kept c.quantity) there ∙ sym count;
        }

    texts_at : texts_of (charge_at t i) ≡ texts_there t i
    texts_at =
        let d = charge_at t i in
        let row = get_or rows i d in
        let IsEven : List ℕ → Type 0 = λ list. 2 * (length list / 2) ≡ length list in
        texts_here t i (subst IsEven (sym (list-shown t rows columns i d h)) (list_even t.names row))

  pub have_rows : HaveRows t (length t.billed.items)
  unfolding names_of rows_of
  have_rows =
      let n = length t.billed.items in
      let within : (i : ℕ) → i < n → i < length rows = λ i lt. omega (arith, lt, count_is) in
      let texts = texts_everywhere t n (λ i lt. texts_at i (within i lt)) in
      record {
        agree = λ i lt. agree_at i (within i lt);
        names = columns.names ∙ (ap names_of (sym (shown t rows columns)) ∙ ap (with_texts []) (sym texts));
      }
