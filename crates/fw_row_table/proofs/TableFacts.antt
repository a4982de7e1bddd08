-- The rows of the columns of rows are these rows.
use Rattle.std.proofs.Common.{◌≡◌, ℕ, suc, ◌+◌, ◌<◌, ◌≤◌, Bool, List, [], ◌∷◌, ◌++◌, length, get_or, drop, append_assoc, Option, Some, None, refl, sym, ap, ◌∙◌, subst, arith}
use Rattle.std.specs.Prelude.{option_map, option_to_list, is_some, ℤ, pos, nat_abs, false, All}
use Rattle.std.proofs.lemmas.List.{append-nil, get_or-map, length-map}
use Rattle.std.proofs.lemmas.List.Elements.{All-drop}
use Rattle.std.proofs.lemmas.List.FromFn.{fill_by_all}
use Rattle.fw_charge.specs.Tags.{TagText}
use Rattle.fw_charge.proofs.ChargeFacts.{equal_fields}
use Rattle.fw_charge.specs.Charge.{Charge, DiscountText}
use Rattle.fw_charge.specs.declared.category.Category.{Category}
use Rattle.fw_charge.specs.declared.discount.DiscountStatus.{DiscountStatus}
use Rattle.fw_row_table.specs.declared.table.Table.{Table}
use Rattle.fw_row_table.specs.Names.{Text, place_of}
use Rattle.fw_row_table.specs.Texts.{texts_of_tags}
use Rattle.fw_row_table.specs.Lists.{tag_places, lists_of}
use Rattle.fw_charge.specs.Codes.{category_code, class_code, status_code, status_of}
use Rattle.fw_charge.proofs.CodeFacts.{category_there, class_there, kind_there, status_there}
use Rattle.fw_row_table.specs.Codes.{text_code}
use Rattle.fw_row_table.specs.Table.{AreColumns, id_kept, kind_kept, status_kept, quantity_kept, category_at, class_at, text_at, text_of, discount_of, quantity_of, tag_of, tags_of, list_at, charge_at, rows_of}
use Rattle.fw_row_table.proofs.NameFacts.{text_at_place}
use Rattle.fw_row_table.proofs.TextFacts.{IsKnown, AreKnown, IsRowKnown, rows-known, AreKnown-seen}
use Rattle.fw_row_table.proofs.ListFacts.{AreKnown-at, length-lists_of}

-- each code stands for what it was made from
category-back : (c : Category) → category_at (category_code c) ≡ c
category-back c = rw (category_there c) refl

class-back : (b : Bool) → class_at (class_code b) ≡ b
class-back b = rw (class_there b) refl

status-back : (s : Option DiscountStatus) → status_of (status_code s) ≡ s
unfolding status_code
status-back None = refl
status-back (Some s) = status_there s

known_text : (names : List Text) (t : Text) → IsKnown names t → text_at names (place_of names t) ≡ t
unfolding text_at
known_text names t h = text_at_place names t [] h.below

pub one_more : (n : ℕ) → 1 + n ≡ suc n
one_more n = omega arith

pub text-back : (names : List Text) (t : Option Text) → AreKnown names (option_to_list t) → text_of names (text_code names t) ≡ t
unfolding text_of text_code
text-back names None h = refl
text-back names (Some t) h = rw (one_more (place_of names t), known_text names t h.0) refl

discount-back : (names : List Text) (d : Option DiscountText) → AreKnown names (option_to_list (option_map (λ x. x.id) d)) → discount_of (text_of names (id_kept names d)) (kind_kept d) (status_kept d) ≡ d
unfolding discount_of kind_kept status_kept
discount-back names None h = rw (text-back names None h) refl
discount-back names (Some d) h = rw (text-back names (Some d.id) h, kind_there d.kind, status-back d.status) refl

quantity-back : (q : Option ℤ) → quantity_of (is_some q) (quantity_kept q) ≡ q
unfolding quantity_of quantity_kept
quantity-back None = refl
quantity-back (Some q) = refl

pub tags-back : (names : List Text) (tags : List TagText) → AreKnown names (texts_of_tags tags) → tags_of names (tag_places names tags) ≡ tags
unfolding tags_of tag_of tag_places texts_of_tags
tags-back names [] h = refl
tags-back names (t ∷ ts) h = rw (known_text names t.key h.0, known_text names t.value h.1.0, tags-back names ts h.1.1) refl

-- where the reading of tags stands
pub tags_step : (names : List Text) (places : List ℕ) → 2 ≤ length places → tags_of names places ≡ tag_of names (get_or places 0 0) (get_or places 1 0) ∷ tags_of names (drop 2 places)
unfolding tags_of
tags_step names [] h = absurd (omega arith)
tags_step names (key ∷ []) h = absurd (omega arith)
tags_step names (key ∷ value ∷ places) h = refl

pub tags_nowhere : (names : List Text) (places : List ℕ) → length places < 2 → tags_of names places ≡ []
unfolding tags_of
tags_nowhere names [] h = refl
tags_nowhere names (key ∷ []) h = refl
tags_nowhere names (key ∷ value ∷ places) h = absurd (omega arith)

-- the tags so far, and the places of those that are to come
pub record AreSplit (names : List Text) (tags : List TagText) (rest list : List ℕ) : Type 0 where
  pub split : tags ++ tags_of names rest ≡ tags_of names list
  pub within : All (λ place. place < length names) rest

-- one tag more, from the first two places
pub one_tag_more : (names : List Text) (tags : List TagText) (rest list : List ℕ) → 2 ≤ length rest → AreSplit names tags rest list
    → AreSplit names (tags ++ tag_of names (get_or rest 0 0) (get_or rest 1 0) ∷ []) (drop 2 rest) list
one_tag_more names tags rest list some h =
    let tag = tag_of names (get_or rest 0 0) (get_or rest 1 0) in
    record {
      split = append_assoc tags (tag ∷ []) (tags_of names (drop 2 rest)) ∙ (ap (λ ts. tags ++ ts) (sym (tags_step names rest some)) ∙ h.split);
      within = All-drop (λ place. place < length names) 2 rest h.within;
    }

-- where no two places are left, these are the tags
pub no_tag_more : (names : List Text) (tags : List TagText) (rest list : List ℕ) → length rest < 2 → AreSplit names tags rest list → tags ≡ tags_of names list
no_tag_more names tags rest list few h = sym (append-nil tags) ∙ (ap (λ ts. tags ++ ts) (sym (tags_nowhere names rest few)) ∙ h.split)

-- the lists of the columns of rows
module _ (t : Table) (rows : List Charge) (columns : AreColumns t rows) where
  pub lists_known : AreKnown t.lists (lists_of t.names rows)
  lists_known = rw columns.lists (AreKnown-seen [] (lists_of t.names rows))

  pub rows_known : All (IsRowKnown t.names) rows
  rows_known = rw columns.names (rows-known rows)

-- the row that the columns have at a place
module _ (t : Table) (rows : List Charge) (columns : AreColumns t rows) (i : ℕ) (d : Charge) (h : i < length rows) where
  pub texts_known : IsRowKnown t.names (get_or rows i d)
  texts_known = rows_known t rows columns i d h

  row_list : get_or (lists_of t.names rows) i [] ≡ tag_places t.names (get_or rows i d).tags
  unfolding lists_of
  row_list = get_or-map (λ (c : Charge). tag_places t.names c.tags) rows i d [] h

  within : i < length (lists_of t.names rows)
  within = let n : length (lists_of t.names rows) ≡ length rows = length-lists_of t.names rows in omega (arith, n)

  pub list_known : IsKnown t.lists (tag_places t.names (get_or rows i d).tags)
  list_known = subst (IsKnown t.lists) row_list (AreKnown-at t.lists (lists_of t.names rows) i (lists_known t rows columns) within)

  pub list-place : get_or t.tags.items i 0 ≡ place_of t.lists (tag_places t.names (get_or rows i d).tags)
  list-place = ap (λ places. get_or places i 0) columns.tags ∙ (get_or-map (place_of t.lists) (lists_of t.names rows) i [] 0 within ∙ ap (place_of t.lists) row_list)

  pub list-shown : list_at t i ≡ tag_places t.names (get_or rows i d).tags
  unfolding list_at
  list-shown = ap (λ place. get_or t.lists place []) list-place ∙ text_at_place t.lists (tag_places t.names (get_or rows i d).tags) [] list_known.below

  pub row-shown : charge_at t i ≡ get_or rows i d
  unfolding charge_at
  row-shown =
      let r = get_or rows i d in
      let known = texts_known in
      let e1 : get_or t.billed.items i (pos 0) ≡ r.billed = rw columns.billed (get_or-map (λ c. c.billed) rows i d (pos 0) h) in
      let e2 : get_or t.effective.items i (pos 0) ≡ r.effective = rw columns.effective (get_or-map (λ c. c.effective) rows i d (pos 0) h) in
      let e3 : category_at (get_or t.categories.items i 0) ≡ r.category = rw (columns.categories, get_or-map (λ c. category_code c.category) rows i d 0 h) (category-back r.category) in
      let e4 : class_at (get_or t.classes.items i 0) ≡ r.is_correction = rw (columns.classes, get_or-map (λ c. class_code c.is_correction) rows i d 0 h) (class-back r.is_correction) in
      let e5 : nat_abs (get_or t.starts.items i (pos 0)) ≡ r.start = rw (columns.starts, get_or-map (λ c. pos c.start) rows i d (pos 0) h) refl in
      let e6 : get_or t.ends.items i 0 ≡ r.end = rw columns.ends (get_or-map (λ c. c.end) rows i d 0 h) in
      let id : get_or t.discounts.items i 0 ≡ id_kept t.names r.discount = rw columns.discounts (get_or-map (λ c. id_kept t.names c.discount) rows i d 0 h) in
      let kind : get_or t.kinds.items i 0 ≡ kind_kept r.discount = rw columns.kinds (get_or-map (λ c. kind_kept c.discount) rows i d 0 h) in
      let status : get_or t.statuses.items i 0 ≡ status_kept r.discount = rw columns.statuses (get_or-map (λ c. status_kept c.discount) rows i d 0 h) in
      let e7 : discount_of (text_of t.names (get_or t.discounts.items i 0)) (get_or t.kinds.items i 0) (get_or t.statuses.items i 0) ≡ r.discount =
      (λ j. discount_of (text_of t.names (id j)) (kind j) (status j)) ∙ discount-back t.names r.discount known.discount in
      let there : get_or t.has_quantity.items i false ≡ is_some r.quantity = rw columns.has_quantity (get_or-map (λ c. is_some c.quantity) rows i d false h) in
      let count : get_or t.quantities.items i (pos 0) ≡ quantity_kept r.quantity = rw columns.quantities (get_or-map (λ c. quantity_kept c.quantity) rows i d (pos 0) h) in
      let e8 : quantity_of (get_or t.has_quantity.items i false) (get_or t.quantities.items i (pos 0)) ≡ r.quantity = (λ j. quantity_of (there j) (count j)) ∙ quantity-back r.quantity in
      let e9 : text_of t.names (get_or t.units.items i 0) ≡ r.unit =
      rw (columns.units, get_or-map (λ c. text_code t.names c.unit) rows i d 0 h) (text-back t.names r.unit known.unit) in
      let e10 : text_of t.names (get_or t.skus.items i 0) ≡ r.sku =
      rw (columns.skus, get_or-map (λ c. text_code t.names c.sku) rows i d 0 h) (text-back t.names r.sku known.sku) in
      let e11 : text_of t.names (get_or t.sub_accounts.items i 0) ≡ r.sub_account =
      rw (columns.sub_accounts, get_or-map (λ c. text_code t.names c.sub_account) rows i d 0 h) (text-back t.names r.sub_account known.sub_account) in
      let e12 : tags_of t.names (list_at t i) ≡ r.tags = ap (tags_of t.names) list-shown ∙ tags-back t.names r.tags known.tags in
      equal_fields (charge_at t i) r e1 e2 e3 e4 e5 e6 e7 e8 e9 e10 e11 e12

-- the rows of the columns of rows are these rows
pub shown : (t : Table) (rows : List Charge) → AreColumns t rows → rows_of t ≡ rows
unfolding rows_of
shown t rows columns =
    sym (fill_by_all (charge_at t) rows (length t.billed.items) (charge_at t 0) (rw columns.billed (sym (length-map rows (λ c. c.billed))))
    (λ k h. sym (row-shown t rows columns k (charge_at t 0) (rw (← length-map rows (λ c. c.billed), ← columns.billed) h))))

pub columns_shown : (t : Table) (rows : List Charge) → AreColumns t rows → AreColumns t (rows_of t)
columns_shown t rows columns = subst (AreColumns t) (sym (shown t rows columns)) columns
