-- Columns with one more row.
use Rattle.std.proofs.Common.{◌≡◌, ℕ, ◌+◌, ◌*◌, ◌<◌, ◌≤◌, List, [], ◌∷◌, ◌++◌, length, get_or, map, Option, Some, None, refl, sym, ap, ◌∙◌, subst, arith, append_assoc, length-append}
use Rattle.std.specs.Prelude.{option_copied, option_map, option_to_list, is_some, pos, All, nat_abs}
use Rattle.std.proofs.lemmas.List.{append-nil, map_push}
use Rattle.std.proofs.lemmas.List.Elements.{All-head, All-tail, All-push}
use Rattle.std.proofs.lemmas.Option.{slice_get-get_or}
use Rattle.std.proofs.lemmas.Grind.{flat_map-append}
use Rattle.fw_money.specs.Amount.{most_nanos}
use Rattle.fw_charge.specs.Tags.{TagText}
use Rattle.fw_charge.specs.Charge.{Charge, IsCharge}
use Rattle.fw_columns.specs.declared.adding.TextCodes.{TextCodes}
use Rattle.fw_charge.specs.declared.discount.DiscountKind.{DiscountKind}
use Rattle.fw_charge.specs.declared.discount.DiscountStatus.{DiscountStatus}
use Rattle.std.specs.Borrow.{Bor}
use Rattle.fw_row_table.specs.declared.lending.RowView.{RowView}
use Rattle.fw_row_table.specs.declared.table.Table.{Table}
use Rattle.fw_row_table.specs.Names.{Text, place_of, with_text}
use Rattle.fw_row_table.specs.Texts.{with_texts, texts_of, texts_of_tags, names_of, most_texts}
use Rattle.fw_row_table.specs.Lists.{tag_places, lists_of}
use Rattle.fw_row_table.specs.Codes.{text_code}
use Rattle.fw_charge.specs.Codes.{category_code, class_code}
use Rattle.fw_row_table.specs.Table.{most_column_rows, AreColumns, id_kept, kind_kept, status_kept, quantity_kept, charge_at}
use Rattle.fw_row_table.specs.Lending.{charge_with, discount_with}
use Rattle.fw_columns.specs.Rows.{tags_at}
use Rattle.fw_columns.specs.Adding.{texts_of_view, AreCodesOf, HasMore}
use Rattle.fw_row_table.proofs.TextFacts.{IsKnown, AreKnown, AreKnown-left, AreKnown-right, AreKnown-seen, IsKnown-more, IsRowKnown, known_adds_nothing, with_texts-append, with_texts-grows}
use Rattle.fw_row_table.proofs.ListFacts.{AreListed, listed_more, lists_kept, lists_of-append, places_kept}
use Rattle.fw_row_table.proofs.TableFacts.{rows_known, texts_known, list_known, list-place}

-- ---- codes while more texts come

code_kept : (names more : List Text) (t : Option Text) → AreKnown names (option_to_list t) → text_code (with_texts names more) t ≡ text_code names t
unfolding text_code
code_kept names more None h = refl
code_kept names more (Some t) h = let grown = with_texts-grows names more in rw (grown.1, (IsKnown-more names grown.0 t h.0).0) refl

pub codes_kept : (names more : List Text) (text : Charge → Option Text) → ((c : Charge) → IsRowKnown names c → AreKnown names (option_to_list (text c))) → (rows : List Charge) → All (IsRowKnown names) rows
    → map (λ c. text_code names (text c)) rows ≡ map (λ c. text_code (with_texts names more) (text c)) rows
codes_kept names more text known [] all = refl
codes_kept names more text known (r ∷ rs) all =
    rw (code_kept names more (text r) (known r (All-head (IsRowKnown names) r rs all)), codes_kept names more text known rs (All-tail (IsRowKnown names) r rs all)) refl

-- texts that are known add nothing
nothing_added : (names ts : List Text) → AreKnown names ts → with_texts names ts ≡ names
unfolding with_texts
nothing_added names [] h = refl
nothing_added names (t ∷ ts) h = rw (known_adds_nothing names t h.0) (nothing_added names ts h.1)

known_later : (names more ts : List Text) → AreKnown names ts → AreKnown (names ++ more) ts
known_later names more [] h = tt
known_later names more (t ∷ ts) h = ((IsKnown-more names more t h.0).1, known_later names more ts h.1)

-- ---- the texts of a row

ids_are : (id : Option (Bor Text)) (kind : DiscountKind) (status : Option DiscountStatus) → option_map (λ d. d.id) (discount_with id kind status) ≡ option_copied id
ids_are None kind status = refl
ids_are (Some id) kind status = refl

four_and_more : (a b c d e : List Text) → (a ++ (b ++ (c ++ d))) ++ e ≡ a ++ (b ++ (c ++ (d ++ e)))
four_and_more a b c d e = append_assoc a (b ++ (c ++ d)) e ∙ ap (λ x. a ++ x) (append_assoc b (c ++ d) e ∙ ap (λ x. b ++ x) (append_assoc c d e))

view_texts : (row : RowView) (tags : List TagText) → texts_of_view row ++ texts_of_tags tags ≡ texts_of (charge_with row tags)
unfolding texts_of_view texts_of
view_texts row tags =
    rw (ids_are row.discount row.kind row.status)
    (four_and_more (option_to_list (option_copied row.discount)) (option_to_list (option_copied row.unit)) (option_to_list (option_copied row.sku)) (option_to_list (option_copied row.sub_account)) (texts_of_tags tags))

names_of_push : (rows : List Charge) (c : Charge) → with_texts (names_of rows) (texts_of c) ≡ names_of (rows ++ c ∷ [])
unfolding names_of
names_of_push rows c = rw (flat_map-append, append-nil, with_texts-append) refl

-- the texts of a row, seen in turn, and their codes
module _ (row : RowView) (n a b c d : List Text) (one : a ≡ with_texts n (option_to_list (option_copied row.discount))) (two : b ≡ with_texts a (option_to_list (option_copied row.unit)))
    (three : c ≡ with_texts b (option_to_list (option_copied row.sku))) (four : d ≡ with_texts c (option_to_list (option_copied row.sub_account))) where
  pub seen_in_turn : d ≡ with_texts n (texts_of_view row)
  unfolding texts_of_view
  seen_in_turn = rw (four, three, two, one, with_texts-append, with_texts-append, with_texts-append) refl

  later : (m e : List Text) (more : List Text) (t : Option Text) → m ≡ with_texts e (option_to_list t) → d ≡ with_texts m more → text_code m t ≡ text_code d t
  later m e more t seen is = let known : AreKnown m (option_to_list t) = rw seen (AreKnown-seen e (option_to_list t)) in sym (code_kept m more t known) ∙ ap (λ ns. text_code ns t) (sym is)

  pub codes_in_turn : (codes : TextCodes) → codes.discount ≡ text_code a (option_copied row.discount) → codes.unit ≡ text_code b (option_copied row.unit) → codes.sku ≡ text_code c (option_copied row.sku)
      → codes.sub_account ≡ text_code d (option_copied row.sub_account) → AreCodesOf d row codes
  codes_in_turn codes id unit sku sub_account =
      let d_of_b : d ≡ with_texts b (option_to_list (option_copied row.sku) ++ option_to_list (option_copied row.sub_account)) = rw (four, three, with_texts-append) refl in
      let d_of_a : d ≡ with_texts a (option_to_list (option_copied row.unit) ++ (option_to_list (option_copied row.sku) ++ option_to_list (option_copied row.sub_account))) =
      rw (four, three, two, with_texts-append, with_texts-append) refl in
      record {
        discount = id ∙ later a n _ (option_copied row.discount) one d_of_a;
        unit = unit ∙ later b a _ (option_copied row.unit) two d_of_b;
        sku = sku ∙ later c b _ (option_copied row.sku) three four;
        sub_account = sub_account;
      }

-- ---- a column with one more value
pushed_column : {A : Type 0} (f : Charge → A) (old new : List A) (rows : List Charge) (c : Charge) (x : A) → new ≡ old ++ x ∷ [] → old ≡ map f rows → x ≡ f c → new ≡ map f (rows ++ c ∷ [])
pushed_column f old new rows c x pushed are is = pushed ∙ ((λ j. are j ++ is j ∷ []) ∙ sym (map_push f rows c))

pub last_is : {A : Type 0} (old new : List A) (x y : A) → new ≡ old ++ x ∷ [] → x ≡ y → new ≡ old ++ y ∷ []
last_is old new x y pushed is = pushed ∙ ap (λ z. old ++ z ∷ []) is

-- columns with other texts and lists
abbrev pub renamed : Table → List Text → List (List ℕ) → Table
renamed t names lists = record {
  names = names;
  lists = lists;
  billed = t.billed;
  effective = t.effective;
  categories = t.categories;
  classes = t.classes;
  starts = t.starts;
  ends = t.ends;
  discounts = t.discounts;
  kinds = t.kinds;
  statuses = t.statuses;
  quantities = t.quantities;
  has_quantity = t.has_quantity;
  units = t.units;
  skus = t.skus;
  sub_accounts = t.sub_accounts;
  tags = t.tags;
}

-- ---- columns whose texts and lists are those with one more row, and to which its values were added
module _ (t u : Table) (rows : List Charge) (columns : AreColumns t rows) (row : RowView) (tags : List TagText) (codes : TextCodes) (seen : List Text) (list : List ℕ) (place : ℕ)
    (seen_is : seen ≡ with_texts t.names (texts_of_view row)) (codes_are : AreCodesOf seen row codes) (names_are : u.names ≡ with_texts seen (texts_of_tags tags))
    (list_is : list ≡ tag_places u.names tags) (lists_are : u.lists ≡ with_text t.lists list) (place_is : place ≡ place_of u.lists list) where
  all_seen : u.names ≡ with_texts t.names (texts_of (charge_with row tags))
  all_seen =
      names_are ∙ (ap (λ ns. with_texts ns (texts_of_tags tags)) seen_is
      ∙ (sym (with_texts-append t.names (texts_of_view row) (texts_of_tags tags)) ∙ ap (with_texts t.names) (view_texts row tags)))

  all_known : AreKnown seen (texts_of_view row)
  all_known = rw seen_is (AreKnown-seen t.names (texts_of_view row))

  -- the codes of the row
  now : (t : Option Text) → AreKnown seen (option_to_list t) → text_code seen t ≡ text_code u.names t
  now t h = sym (code_kept seen (texts_of_tags tags) t h) ∙ ap (λ ns. text_code ns t) (sym names_are)

  own_codes : AreCodesOf u.names row codes
  unfolding texts_of_view
  own_codes =
      let after_id = AreKnown-right seen (option_to_list (option_copied row.discount)) _ all_known in
      let after_unit = AreKnown-right seen (option_to_list (option_copied row.unit)) _ after_id in
      record {
        discount = codes_are.discount ∙ now (option_copied row.discount) (AreKnown-left seen (option_to_list (option_copied row.discount)) _ all_known);
        unit = codes_are.unit ∙ now (option_copied row.unit) (AreKnown-left seen (option_to_list (option_copied row.unit)) _ after_id);
        sku = codes_are.sku ∙ now (option_copied row.sku) (AreKnown-left seen (option_to_list (option_copied row.sku)) _ after_unit);
        sub_account = codes_are.sub_account ∙ now (option_copied row.sub_account) (AreKnown-right seen (option_to_list (option_copied row.sku)) _ after_unit);
      }

  -- the codes of the rows before
  earlier : (text : Charge → Option Text) → ((c : Charge) → IsRowKnown t.names c → AreKnown t.names (option_to_list (text c))) → map (λ c. text_code t.names (text c)) rows ≡ map (λ c. text_code u.names (text c)) rows
  earlier text known =
      codes_kept t.names (texts_of (charge_with row tags)) text known rows (rows_known t rows columns) ∙ (λ j. map (λ c. text_code (sym all_seen j) (text c)) rows)

  listed : AreListed [] u.lists (t.tags.items ++ place ∷ []) (lists_of u.names (rows ++ charge_with row tags ∷ []))
  unfolding lists_of
  listed =
      let c = charge_with row tags in
      let kept : lists_of t.names rows ≡ lists_of u.names rows = sym (lists_kept t.names (texts_of c) rows (rows_known t rows columns)) ∙ (λ j. lists_of (sym all_seen j) rows) in
      let lists : lists_of t.names rows ++ list ∷ [] ≡ lists_of u.names (rows ++ c ∷ []) = (λ j. kept j ++ list_is j ∷ []) ∙ sym (lists_of-append u.names rows (c ∷ [])) in
      subst (AreListed [] u.lists (t.tags.items ++ place ∷ [])) lists
      (listed_more [] t.lists t.tags.items (lists_of t.names rows) (record { seen = columns.lists; places = columns.tags }) u.lists list place (t.tags.items ++ place ∷ []) lists_are place_is refl)

  pub pushed_columns : IsCharge (charge_with row tags) → length rows < most_column_rows → length u.names ≤ length t.names + most_texts → length u.lists ≤ length t.lists + 1 → (names : List Text) (lists : List (List ℕ))
      → HasMore (renamed t names lists) u row codes place → AreColumns u (rows ++ charge_with row tags ∷ [])
  pushed_columns valid room names_grew lists_grew names lists more =
      let c = charge_with row tags in
      let own = own_codes in
      let size : length (rows ++ c ∷ []) ≡ length rows + 1 = length-append rows (c ∷ []) in
      record {
        few = omega (arith, size, room);
        charges = All-push IsCharge rows c columns.charges valid;
        names = all_seen ∙ (ap (λ ns. with_texts ns (texts_of c)) columns.names ∙ names_of_push rows c);
        names_few = let before : length t.names ≤ most_texts * length rows = columns.names_few in omega (arith, size, names_grew, before);
        lists = listed.seen;
        lists_few = let before : length t.lists ≤ length rows = columns.lists_few in omega (arith, size, lists_grew, before);
        billed = pushed_column (λ c. c.billed) t.billed.items u.billed.items rows c row.billed more.billed columns.billed refl;
        effective = pushed_column (λ c. c.effective) t.effective.items u.effective.items rows c row.effective more.effective columns.effective refl;
        billed_range = rw more.billed (All-push (λ n. nat_abs n ≤ most_nanos) t.billed.items row.billed columns.billed_range more.billed_range);
        effective_range = rw more.effective (All-push (λ n. nat_abs n ≤ most_nanos) t.effective.items row.effective columns.effective_range more.effective_range);
        categories = pushed_column (λ c. category_code c.category) t.categories.items u.categories.items rows c (category_code row.category) more.categories columns.categories refl;
        classes = pushed_column (λ c. class_code c.is_correction) t.classes.items u.classes.items rows c (class_code row.is_correction) more.classes columns.classes refl;
        starts = pushed_column (λ c. pos c.start) t.starts.items u.starts.items rows c (pos row.start) more.starts columns.starts refl;
        ends = pushed_column (λ c. c.end) t.ends.items u.ends.items rows c row.end more.ends columns.ends refl;
        discounts =
            pushed_column (λ c. id_kept u.names c.discount) t.discounts.items u.discounts.items rows c codes.discount more.discounts
            (columns.discounts ∙ earlier (λ c. option_map (λ d. d.id) c.discount) (λ c known. known.discount))
            (own.discount ∙ ap (text_code u.names) (sym (ids_are row.discount row.kind row.status)));
        kinds = pushed_column (λ c. kind_kept c.discount) t.kinds.items u.kinds.items rows c (kind_kept c.discount) more.kinds columns.kinds refl;
        statuses = pushed_column (λ c. status_kept c.discount) t.statuses.items u.statuses.items rows c (status_kept c.discount) more.statuses columns.statuses refl;
        quantities = pushed_column (λ c. quantity_kept c.quantity) t.quantities.items u.quantities.items rows c (quantity_kept row.quantity) more.quantities columns.quantities refl;
        quantities_range =
            rw more.quantities (All-push (λ n. nat_abs n ≤ most_nanos) t.quantities.items (quantity_kept row.quantity) columns.quantities_range more.quantity_range);
        has_quantity = pushed_column (λ c. is_some c.quantity) t.has_quantity.items u.has_quantity.items rows c (is_some row.quantity) more.has_quantity columns.has_quantity refl;
        units =
            pushed_column (λ c. text_code u.names c.unit) t.units.items u.units.items rows c codes.unit more.units
            (columns.units ∙ earlier (λ c. c.unit) (λ c known. known.unit)) own.unit;
        skus =
            pushed_column (λ c. text_code u.names c.sku) t.skus.items u.skus.items rows c codes.sku more.skus
            (columns.skus ∙ earlier (λ c. c.sku) (λ c known. known.sku)) own.sku;
        sub_accounts =
            pushed_column (λ c. text_code u.names c.sub_account) t.sub_accounts.items u.sub_accounts.items rows c codes.sub_account more.sub_accounts
            (columns.sub_accounts ∙ earlier (λ c. c.sub_account) (λ c known. known.sub_account)) own.sub_account;
        tags = more.tags ∙ listed.places;
      }

-- ---- a row with the tags of a row that is there
module _ (t : Table) (rows : List Charge) (columns : AreColumns t rows) (i : ℕ) (h : i < length rows) where
  tags_there : tags_at rows i ≡ (get_or rows i (charge_at t i)).tags
  tags_there = rw (slice_get-get_or rows i (charge_at t i) h) refl

  pub pushed_like : (u : Table) (row : RowView) (codes : TextCodes) (seen : List Text) (place : ℕ) → seen ≡ with_texts t.names (texts_of_view row) → AreCodesOf seen row codes → place ≡ get_or t.tags.items i 0
      → IsCharge (charge_with row (tags_at rows i)) → length rows < most_column_rows → length seen ≤ length t.names + 4 → HasMore (renamed t seen t.lists) u row codes place
      → AreColumns u (rows ++ charge_with row (tags_at rows i) ∷ [])
  unfolding tag_places
  pushed_like u row codes seen place seen_is codes_are place_is valid room grew more =
      let d = charge_at t i in
      let tags = tags_at rows i in
      let list = tag_places t.names tags in
      let AreTagsKnown : List TagText → Type 0 = λ tags. AreKnown t.names (texts_of_tags tags) in
      let IsListKnown : List TagText → Type 0 = λ tags. IsKnown t.lists (tag_places t.names tags) in
      let known : AreKnown t.names (texts_of_tags tags) = subst AreTagsKnown (sym tags_there) (texts_known t rows columns i d h).tags in
      let grown = with_texts-grows t.names (texts_of_view row) in
      let known_now : AreKnown seen (texts_of_tags tags) = rw (seen_is, grown.1) (known_later t.names grown.0 (texts_of_tags tags) known) in
      let list_there : IsKnown t.lists list = subst IsListKnown (sym tags_there) (list_known t rows columns i d h) in
      let names_are : u.names ≡ with_texts seen (texts_of_tags tags) = more.names ∙ sym (nothing_added seen (texts_of_tags tags) known_now) in
      let list_is : list ≡ tag_places u.names tags =
      sym (places_kept t.names (texts_of_view row) (texts_of_tags tags) known) ∙ (λ j. tag_places ((sym seen_is ∙ sym more.names) j) tags) in
      let lists_are : u.lists ≡ with_text t.lists list = more.lists ∙ sym (known_adds_nothing t.lists list list_there) in
      let code_is : place ≡ place_of u.lists list =
      place_is ∙ (list-place t rows columns i d h ∙ ((λ j. place_of t.lists (tag_places t.names (sym tags_there j))) ∙ (λ j. place_of (sym more.lists j) list))) in
      pushed_columns t u rows columns row tags codes seen list place seen_is codes_are names_are list_is lists_are code_is valid room
      (let same : length u.names ≡ length seen = ap length more.names in omega (arith, same, grew))
      (let same : length u.lists ≡ length t.lists = ap length more.lists in omega (arith, same))
      seen t.lists more
