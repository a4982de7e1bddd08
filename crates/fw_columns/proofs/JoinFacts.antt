-- The columns of rows with those of further rows behind them, by the places that their names have now.
use Rattle.std.proofs.Common.{◌≡◌, ℕ, ◌+◌, ◌*◌, ◌<◌, ◌≤◌, List, [], ◌∷◌, ◌++◌, length, map, Option, Some, None, refl, sym, ap, ◌∙◌, arith, length-append}
use Rattle.std.specs.Prelude.{option_map, option_to_list, All, nat_abs}
use Rattle.std.proofs.lemmas.List.{get_or-map, map-append}
use Rattle.std.proofs.lemmas.Simd.{map-map}
use Rattle.std.proofs.lemmas.List.Elements.{All-nil, All-head, All-tail, All-append, All-map, All-weaker}
use Rattle.fw_charge.specs.Charge.{Charge, IsCharge}
use Rattle.fw_money.specs.Amount.{most_nanos}
use Rattle.fw_row_table.specs.declared.table.Table.{Table}
use Rattle.fw_row_table.specs.Names.{Text, place_of}
use Rattle.fw_row_table.specs.Texts.{texts_of_tags, with_texts, most_texts}
use Rattle.fw_row_table.specs.Lists.{tag_places, lists_of}
use Rattle.fw_row_table.specs.Codes.{text_code}
use Rattle.fw_row_table.specs.Table.{most_column_rows, AreColumns}
use Rattle.fw_columns.specs.Joining.{replaced, replaced_code, AreCodesBelow, HasAll}
use Rattle.fw_columns.proofs.AddFacts.{codes_kept, renamed}
use Rattle.fw_row_table.proofs.NameFacts.{text_at_place}
use Rattle.fw_row_table.proofs.TextFacts.{AreKnown, IsRowKnown, names_of-append, images_behind, with_texts-append}
use Rattle.fw_row_table.proofs.ListFacts.{places-within, places_kept, with_texts-all, lists_kept, lists_of-append}
use Rattle.fw_row_table.proofs.TableFacts.{one_more, rows_known, lists_known}
use Rattle.fw_row_table.proofs.RowFacts.{text-within}

-- values at the places of known texts
pub values_there : (names ts : List Text) (f : Text → ℕ) → AreKnown names ts → replaced (map f names) (map (place_of names) ts) ≡ map f ts
values_there names [] f h = refl
values_there names (t ∷ ts) f h = rw (get_or-map f names (place_of names t) [] 0 h.0.below, text_at_place names t [] h.0.below, values_there names ts f h.1) refl

-- and those of their images
values_again : (names ts : List Text) (r : Text → Text) (f : Text → ℕ) → AreKnown names ts → replaced (map f (map r names)) (map (place_of names) ts) ≡ map f (map r ts)
values_again names ts r f h = (λ j. replaced (map-map f r names j) (map (place_of names) ts)) ∙ (values_there names ts (λ t. f (r t)) h ∙ sym (map-map f r ts))

-- a list made from another twice
map_again : {X B C : Type 0} (g : B → C) (f : X → B) (h : X → C) (P : X → Type 0) → ((x : X) → P x → g (f x) ≡ h x) → (xs : List X) → All P xs → map g (map f xs) ≡ map h xs
map_again g f h P same [] all = refl
map_again g f h P same (x ∷ xs) all = rw (same x (All-head P x xs all), map_again g f h P same xs (All-tail P x xs all)) refl

-- codes and lists by places in some names, as codes and lists by the places that these names have now
module _ (before now : List Text) (places : List ℕ) (are : places ≡ map (place_of now) before) where
  code_again : (t : Option Text) → AreKnown before (option_to_list t) → replaced_code places (text_code before t) ≡ text_code now t
  unfolding replaced_code text_code
  code_again None h = refl
  code_again (Some t) h = rw (one_more (place_of before t), are, get_or-map (place_of now) before (place_of before t) [] 0 h.0.below, text_at_place before t [] h.0.below) refl

  codes_again : (text : Charge → Option Text) → ((c : Charge) → IsRowKnown before c → AreKnown before (option_to_list (text c))) → (rows : List Charge) → All (IsRowKnown before) rows
      → map (replaced_code places) (map (λ c. text_code before (text c)) rows) ≡ map (λ c. text_code now (text c)) rows
  codes_again text known = map_again (replaced_code places) (λ c. text_code before (text c)) (λ c. text_code now (text c)) (IsRowKnown before) (λ c k. code_again (text c) (known c k))

  lists_again : (rows : List Charge) → All (IsRowKnown before) rows → map (replaced places) (lists_of before rows) ≡ lists_of now rows
  unfolding lists_of tag_places
  lists_again =
      map_again (replaced places) (λ (c : Charge). map (place_of before) (texts_of_tags c.tags)) (λ c. map (place_of now) (texts_of_tags c.tags)) (IsRowKnown before)
      (λ c k. ap (λ ps. replaced ps (map (place_of before) (texts_of_tags c.tags))) are ∙ values_there before (texts_of_tags c.tags) (place_of now) k.tags)

-- the codes and the lists of columns are those of their names
module _ (t : Table) (rows : List Charge) (columns : AreColumns t rows) where
  below : (text : Charge → Option Text) → ((c : Charge) → IsRowKnown t.names c → AreKnown t.names (option_to_list (text c))) → All (λ code. code ≤ length t.names) (map (λ c. text_code t.names (text c)) rows)
  below text known =
      All-map (λ code. code ≤ length t.names) (λ c. text_code t.names (text c)) rows
      (All-weaker (IsRowKnown t.names) (λ c. text_code t.names (text c) ≤ length t.names) (λ c k. text-within t.names (text c) (known c k)) rows (rows_known t rows columns))

  pub codes_below : (n : ℕ) → n ≡ length t.names → AreCodesBelow t n
  codes_below n e = rw e (record {
    discounts = rw columns.discounts (below (λ c. option_map (λ d. d.id) c.discount) (λ c k. k.discount));
    units = rw columns.units (below (λ c. c.unit) (λ c k. k.unit));
    skus = rw columns.skus (below (λ c. c.sku) (λ c k. k.sku));
    sub_accounts = rw columns.sub_accounts (below (λ c. c.sub_account) (λ c k. k.sub_account));
  })

  each_below : All (λ list. All (λ place. place < length t.names) list) (lists_of t.names rows)
  unfolding lists_of tag_places
  each_below =
      All-map (λ list. All (λ place. place < length t.names) list) (λ (c : Charge). map (place_of t.names) (texts_of_tags c.tags)) rows
      (All-weaker (IsRowKnown t.names) (λ (c : Charge). All (λ place. place < length t.names) (map (place_of t.names) (texts_of_tags c.tags)))
      (λ c k. places-within t.names (texts_of_tags c.tags) k.tags) rows (rows_known t rows columns))

  pub lists_within : All (λ list. All (λ place. place < length t.names) list) t.lists
  lists_within =
      rw columns.lists
      (with_texts-all (λ list. All (λ place. place < length t.names) list) [] (lists_of t.names rows) (All-nil (λ list. All (λ place. place < length t.names) list)) each_below)

  pub tags_within : All (λ place. place < length t.lists) t.tags.items
  tags_within = rw columns.tags (places-within t.lists (lists_of t.names rows) (lists_known t rows columns))

-- the columns of rows with those of further rows behind them are those of all
module _ (a n b : Table) (ra rb : List Charge) (ca : AreColumns a ra) (cb : AreColumns b rb) (texts lists : List ℕ) (names_are : n.names ≡ with_texts a.names b.names)
    (texts_are : texts ≡ map (place_of n.names) b.names) (lists_seen : n.lists ≡ with_texts a.lists (map (replaced texts) b.lists))
    (lists_are : lists ≡ map (place_of n.lists) (map (replaced texts) b.lists)) where
  both_codes : (text : Charge → Option Text) → ((ns : List Text) (c : Charge) → IsRowKnown ns c → AreKnown ns (option_to_list (text c)))
      → map (λ c. text_code a.names (text c)) ra ++ map (replaced_code texts) (map (λ c. text_code b.names (text c)) rb) ≡ map (λ c. text_code n.names (text c)) (ra ++ rb)
  both_codes text known =
      let x : map (λ c. text_code a.names (text c)) ra ≡ map (λ c. text_code n.names (text c)) ra =
      codes_kept a.names b.names text (known a.names) ra (rows_known a ra ca) ∙ (λ j. map (λ c. text_code (sym names_are j) (text c)) ra) in
      let y = codes_again b.names n.names texts texts_are text (known b.names) rb (rows_known b rb cb) in
      (λ j. x j ++ y j) ∙ sym (map-append (λ c. text_code n.names (text c)) ra rb)

  both_lists : lists_of a.names ra ++ map (replaced texts) (lists_of b.names rb) ≡ lists_of n.names (ra ++ rb)
  both_lists =
      let x : lists_of a.names ra ≡ lists_of n.names ra = sym (lists_kept a.names b.names ra (rows_known a ra ca)) ∙ ap (λ ns. lists_of ns ra) (sym names_are) in
      let y = lists_again b.names n.names texts texts_are rb (rows_known b rb cb) in
      (λ j. x j ++ y j) ∙ sym (lists_of-append n.names ra rb)

  all_lists : n.lists ≡ with_texts [] (lists_of n.names (ra ++ rb))
  all_lists =
      let la = lists_of a.names ra in
      let lb = lists_of b.names rb in
      lists_seen
      ∙ ((λ j. with_texts (ca.lists j) (map (replaced texts) (cb.lists j)))
      ∙ (images_behind (replaced texts) (with_texts [] la) lb
      ∙ (sym (with_texts-append [] la (map (replaced texts) lb)) ∙ ap (with_texts []) both_lists)))

  both_tags : a.tags.items ++ replaced lists b.tags.items ≡ map (place_of n.lists) (lists_of n.names (ra ++ rb))
  both_tags =
      let la = lists_of a.names ra in
      let lb = lists_of b.names rb in
      let x : a.tags.items ≡ map (place_of n.lists) la =
      ca.tags ∙ (sym (places_kept a.lists (map (replaced texts) b.lists) la (lists_known a ra ca)) ∙ (λ j. map (place_of (sym lists_seen j)) la)) in
      let y : replaced lists b.tags.items ≡ map (place_of n.lists) (map (replaced texts) lb) =
      (λ j. replaced (lists_are j) (cb.tags j)) ∙ values_again b.lists lb (replaced texts) (place_of n.lists) (lists_known b rb cb) in
      (λ j. x j ++ y j) ∙ (sym (map-append (place_of n.lists) la (map (replaced texts) lb)) ∙ ap (map (place_of n.lists)) both_lists)

  pub appended_columns : length ra + length rb ≤ most_column_rows → length n.names ≤ length a.names + length b.names → length n.lists ≤ length a.lists + length b.lists → (names : List Text) (kept : List (List ℕ))
      → HasAll (renamed a names kept) n b texts lists → AreColumns n (ra ++ rb)
  appended_columns fits some few names kept all = record {
    few = rw length-append fits;
    charges = All-append IsCharge ra rb ca.charges cb.charges;
    names = names_are ∙ ((λ j. with_texts (ca.names j) (cb.names j)) ∙ names_of-append ra rb);
    names_few = let x : length a.names ≤ most_texts * length ra = ca.names_few in let y : length b.names ≤ most_texts * length rb = cb.names_few in rw length-append (omega (arith, some, x, y));
    lists = all_lists;
    lists_few = let x : length a.lists ≤ length ra = ca.lists_few in let y : length b.lists ≤ length rb = cb.lists_few in rw length-append (omega (arith, x, y, few));
    billed = all.billed ∙ rw (ca.billed, cb.billed, map-append) refl;
    effective = all.effective ∙ rw (ca.effective, cb.effective, map-append) refl;
    billed_range = rw all.billed (All-append (λ n. nat_abs n ≤ most_nanos) a.billed.items b.billed.items ca.billed_range cb.billed_range);
    effective_range = rw all.effective (All-append (λ n. nat_abs n ≤ most_nanos) a.effective.items b.effective.items ca.effective_range cb.effective_range);
    categories = all.categories ∙ rw (ca.categories, cb.categories, map-append) refl;
    classes = all.classes ∙ rw (ca.classes, cb.classes, map-append) refl;
    starts = all.starts ∙ rw (ca.starts, cb.starts, map-append) refl;
    ends = all.ends ∙ rw (ca.ends, cb.ends, map-append) refl;
    discounts = all.discounts ∙ rw (ca.discounts, cb.discounts) (both_codes (λ c. option_map (λ d. d.id) c.discount) (λ ns c known. known.discount));
    kinds = all.kinds ∙ rw (ca.kinds, cb.kinds, map-append) refl;
    statuses = all.statuses ∙ rw (ca.statuses, cb.statuses, map-append) refl;
    quantities = all.quantities ∙ rw (ca.quantities, cb.quantities, map-append) refl;
    quantities_range = rw all.quantities (All-append (λ n. nat_abs n ≤ most_nanos) a.quantities.items b.quantities.items ca.quantities_range cb.quantities_range);
    has_quantity = all.has_quantity ∙ rw (ca.has_quantity, cb.has_quantity, map-append) refl;
    units = all.units ∙ rw (ca.units, cb.units) (both_codes (λ c. c.unit) (λ ns c known. known.unit));
    skus = all.skus ∙ rw (ca.skus, cb.skus) (both_codes (λ c. c.sku) (λ ns c known. known.sku));
    sub_accounts = all.sub_accounts ∙ rw (ca.sub_accounts, cb.sub_accounts) (both_codes (λ c. c.sub_account) (λ ns c known. known.sub_account));
    tags = all.tags ∙ both_tags;
  }
