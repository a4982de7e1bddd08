-- Columns that were checked are the columns of their rows.
use Rattle.std.proofs.Common.{◌≡◌, ℕ, zero, suc, ◌+◌, ◌*◌, ◌/◌, ◌<◌, ◌≤◌, ℤ, Bool, true, false, List, [], ◌∷◌, ◌++◌, length, get_or, map, Option, Some, None, refl, sym, ap, subst, ◌∙◌, arith, length-append}
use Rattle.std.specs.Prelude.{All, option_map, option_to_list, is_some, pos}
use Rattle.std.specs.List.{flat_map, range_with_len}
use Rattle.std.proofs.lemmas.List.{get_or-map, length-map}
use Rattle.std.proofs.lemmas.List.Elements.{All-head, All-tail, All-map}
use Rattle.std.proofs.lemmas.List.Folds.{flat_map-map}
use Rattle.std.proofs.lemmas.List.FromFn.{fill_by_all, length-range_with_len, get_or-range_with_len, length-map-range_with_len, get_or-map-range_with_len}
use Rattle.std.proofs.lemmas.Simd.{map-map}
use Rattle.fw_charge.specs.Tags.{TagText, most_tags}
use Rattle.fw_charge.specs.Charge.{Charge, IsCharge}
use Rattle.fw_charge.specs.Codes.{category_code, class_code, kind_code, kind_of, status_code, status_of}
use Rattle.fw_row_table.specs.declared.table.Table.{Table}
use Rattle.fw_row_table.specs.Names.{Text, AreDistinct, place_of, with_text}
use Rattle.fw_row_table.specs.Texts.{with_texts, texts_of_tags, texts_of, names_of, most_texts}
use Rattle.fw_row_table.specs.Lists.{tag_places, lists_of}
use Rattle.fw_row_table.specs.Codes.{text_code}
use Rattle.fw_row_table.specs.Table.{AreColumns, id_kept, kind_kept, status_kept, quantity_kept, text_at, text_of, discount_of, quantity_of, tag_of, tags_of, list_at, charge_at, rows_of, most_column_rows}
use Rattle.fw_columns.specs.Parts.{AreNumbered, lists_there, HaveLength, HasFieldsInRange, ArePlacesOfTags, IsShortCode, IsTagList, HaveRows, texts_there}
use Rattle.fw_columns.proofs.PartFacts.{discount_rules, kind_back, status_back}
use Rattle.fw_row_table.proofs.NameFacts.{place_at}
use Rattle.fw_row_table.proofs.TextFacts.{AreKnown, AreKnown-seen, with_text_adds_one}
use Rattle.fw_row_table.proofs.ListFacts.{places-within}
use Rattle.fw_row_table.proofs.TableFacts.{one_more}

-- ---- what texts and tags are kept as

pub code_back : (names : List Text) → AreDistinct names → (code : ℕ) → code ≤ length names → text_code names (text_of names code) ≡ code
unfolding text_code text_of text_at
code_back names distinct zero le = refl
code_back names distinct (suc p) le = rw (place_at names p [] distinct (omega arith)) (one_more p)

id_of : (o : Option Text) (k s : ℕ) → option_map (λ d. d.id) (discount_of o k s) ≡ o
unfolding discount_of
id_of None k s = refl
id_of (Some t) k s = refl

there_of : (b : Bool) (z : ℤ) → is_some (quantity_of b z) ≡ b
unfolding quantity_of
there_of false z = refl
there_of true z = refl

pub texts_even : (names : List Text) (list : List ℕ) → 2 * (length list / 2) ≡ length list → texts_of_tags (tags_of names list) ≡ map (text_at names) list
unfolding texts_of_tags tags_of tag_of
texts_even names [] e = refl
texts_even names (key ∷ []) e = absurd (omega (arith, e))
texts_even names (key ∷ value ∷ places) e =
    ap (λ (ts : List Text). text_at names key ∷ text_at names value ∷ ts) (texts_even names places (omega (arith, e)))

places_back : (names : List Text) → AreDistinct names → (list : List ℕ) → All (λ place. place < length names) list → map (place_of names) (map (text_at names) list) ≡ list
unfolding text_at
places_back names distinct [] h = refl
places_back names distinct (p ∷ ps) h =
    let Within : ℕ → Type 0 = λ place. place < length names in
    rw (place_at names p [] distinct (All-head Within p ps h), places_back names distinct ps (All-tail Within p ps h)) refl

pub list_back : (names : List Text) → AreDistinct names → (list : List ℕ) → ArePlacesOfTags names list → tag_places names (tags_of names list) ≡ list
unfolding tag_places
list_back names distinct list h = ap (map (place_of names)) (texts_even names list h.even) ∙ places_back names distinct list h.within

-- ---- of how many texts names are made

one_at_most : (t : Option Text) → length (option_to_list t) ≤ 1
one_at_most None = omega arith
one_at_most (Some t) = omega arith

pub two_each : (ts : List TagText) → length (texts_of_tags ts) ≡ 2 * length ts
unfolding texts_of_tags
two_each [] = refl
two_each (t ∷ ts) = let rest : length (texts_of_tags ts) ≡ 2 * length ts = two_each ts in omega (arith, rest)

texts_few : (c : Charge) → IsCharge c → length (texts_of c) ≤ most_texts
unfolding texts_of
texts_few c h =
    let le : length c.tags ≤ most_tags = h.tags.few in
    let count : length (texts_of_tags c.tags) ≡ 2 * length c.tags = two_each c.tags in
    simp length-append (omega (arith, le, count, one_at_most (option_map (λ d. d.id) c.discount), one_at_most c.unit, one_at_most c.sku, one_at_most c.sub_account))

all_few : (rows : List Charge) → All IsCharge rows → length (flat_map texts_of rows) ≤ most_texts * length rows
all_few [] h = omega arith
all_few (r ∷ rs) h =
    let one : length (texts_of r) ≤ most_texts = texts_few r (All-head IsCharge r rs h) in
    let rest : length (flat_map texts_of rs) ≤ most_texts * length rs = all_few rs (All-tail IsCharge r rs h) in
    let sum : length (texts_of r ++ flat_map texts_of rs) ≡ length (texts_of r) + length (flat_map texts_of rs) = length-append (texts_of r) (flat_map texts_of rs) in
    omega (arith, one, rest, sum)

no_more : (names ts : List Text) → length (with_texts names ts) ≤ length names + length ts
unfolding with_texts
no_more names [] = omega arith
no_more names (t ∷ ts) = let one = with_text_adds_one names t in let rest = no_more (with_text names t) ts in omega (arith, one, rest)

pub names_few : (rows : List Charge) → All IsCharge rows → length (names_of rows) ≤ most_texts * length rows
unfolding names_of
names_few rows h =
    let made = no_more [] (flat_map texts_of rows) in
    let all : length (flat_map texts_of rows) ≤ most_texts * length rows = all_few rows h in
    omega (arith, made, all)

-- the places of lists are those of lists that are there
pub lists_within : (lists : List (List ℕ)) (codes : List ℕ) (xs : List (List ℕ)) → AreNumbered lists codes xs → All (λ place. place < length lists) codes
lists_within lists codes xs h =
    let known : AreKnown lists xs = subst (λ (ls : List (List ℕ)). AreKnown ls xs) (sym h.seen) (AreKnown-seen [] xs) in
    subst (All (λ place. place < length lists)) (sym h.places) (places-within lists xs known)

-- ---- the texts of the rows

pub texts_here : (t : Table) (i : ℕ) → 2 * (length (list_at t i) / 2) ≡ length (list_at t i) → texts_of (charge_at t i) ≡ texts_there t i
unfolding texts_of texts_there charge_at
texts_here t i even =
    let names = t.names in
    let id = id_of (text_of names (get_or t.discounts.items i 0)) (get_or t.kinds.items i 0) (get_or t.statuses.items i 0) in
    let tags = texts_even names (list_at t i) even in
    (λ j. option_to_list (id j) ++ (option_to_list (text_of names (get_or t.units.items i 0)) ++ (option_to_list (text_of names (get_or t.skus.items i 0)) ++ (option_to_list (text_of names (get_or t.sub_accounts.items i 0)) ++ tags j))))

pub texts_everywhere : (t : Table) (n : ℕ) → ((i : ℕ) → i < n → texts_of (charge_at t i) ≡ texts_there t i)
    → flat_map (texts_there t) (range_with_len 0 n) ≡ flat_map texts_of (map (charge_at t) (range_with_len 0 n))
texts_everywhere t n each =
    let places = range_with_len 0 n in
    let all = λ (ts : List Text). ts in
    let made = λ (i : ℕ). texts_of (charge_at t i) in
    let same : map made places ≡ map (texts_there t) places =
    fill_by_all (texts_there t) (map made places) n [] (length-map-range_with_len made 0 n) (λ k lt. get_or-map-range_with_len made 0 n k k [] lt (omega arith) ∙ each k lt) in
    sym (flat_map-map all (texts_there t) places) ∙ (ap (flat_map all) (sym same) ∙ (flat_map-map all made places ∙ sym (flat_map-map texts_of (charge_at t) places)))

-- ---- all columns
module _ (t : Table) (n : ℕ) (fields : HasFieldsInRange t) (size : HaveLength t n) (numbered : AreNumbered t.lists t.tags.items (lists_there t.lists t.tags.items))
    (lists : All (IsTagList t.names) t.lists) (have : HaveRows t n) (distinct : AreDistinct t.names) where
  abbrev rows : List Charge
  rows = map (charge_at t) (range_with_len 0 n)

  column : {A : Type 0} (f : Charge → A) (xs : List A) (d : A) → length xs ≡ n → ((i : ℕ) → i < n → get_or xs i d ≡ f (charge_at t i)) → xs ≡ map f rows
  column f xs d count each = fill_by_all (λ i. f (charge_at t i)) xs n d count each ∙ sym (map-map f (charge_at t) (range_with_len 0 n))

  module _ (i : ℕ) (lt : i < n) where
    list_within : get_or t.tags.items i 0 < length t.lists
    list_within = lists_within t.lists t.tags.items (lists_there t.lists t.tags.items) numbered i 0 (omega (arith, size.tags, lt))

    list_kept : ArePlacesOfTags t.names (list_at t i)
    unfolding list_at
    list_kept = fields.lists (get_or t.tags.items i 0) [] list_within

    id_short : IsShortCode t.names (get_or t.discounts.items i 0)
    id_short = fields.discounts i 0 (omega (arith, size.discounts, lt))

    unit_short : IsShortCode t.names (get_or t.units.items i 0)
    unit_short = fields.units i 0 (omega (arith, size.units, lt))

    sku_short : IsShortCode t.names (get_or t.skus.items i 0)
    sku_short = fields.skus i 0 (omega (arith, size.skus, lt))

    account_short : IsShortCode t.names (get_or t.sub_accounts.items i 0)
    account_short = fields.sub_accounts i 0 (omega (arith, size.sub_accounts, lt))

    kind_code_kept : kind_code (kind_of (get_or t.kinds.items i 0)) ≡ get_or t.kinds.items i 0
    kind_code_kept = fields.kinds i 0 (omega (arith, size.kinds, lt))

    status_code_kept : status_code (status_of (get_or t.statuses.items i 0)) ≡ get_or t.statuses.items i 0
    status_code_kept = fields.statuses i 0 (omega (arith, size.statuses, lt))

    is_charge : IsCharge (charge_at t i)
    unfolding charge_at list_at
    is_charge =
        let agree = have.agree i lt in
        record {
          ordered = agree.period;
          dated = fields.ends i 0 (omega (arith, size.ends, lt));
          discount = discount_rules t.names _ _ _ _ agree.discount id_short status_code_kept;
          unit = unit_short.short;
          sku = sku_short.short;
          sub_account = account_short.short;
          tags = lists (get_or t.tags.items i 0) [] list_within;
        }

  charges : All IsCharge rows
  charges =
      let each : All (λ i. IsCharge (charge_at t i)) (range_with_len 0 n) =
      (λ k d lt.
      let count : length (range_with_len 0 n) ≡ n = length-range_with_len 0 n in
      let below : k < n = omega (arith, count, lt) in
      let there : k ≡ get_or (range_with_len 0 n) k d = sym (get_or-range_with_len 0 n k d below ∙ (omega arith)) in
      subst (λ (i : ℕ). IsCharge (charge_at t i)) there (is_charge k below)) in
      All-map IsCharge (charge_at t) (range_with_len 0 n) each

  names_are : t.names ≡ names_of rows
  unfolding names_of
  names_are = have.names ∙ ap (with_texts []) (texts_everywhere t n (λ i lt. texts_here t i (list_kept i lt).even))

  lists_are : lists_there t.lists t.tags.items ≡ lists_of t.names rows
  unfolding lists_of list_at charge_at tags_of
  lists_are =
      let there = λ (place : ℕ). get_or t.lists place [] in
      column (λ c. tag_places t.names c.tags) (lists_there t.lists t.tags.items) [] (length-map t.tags.items there ∙ size.tags)
      (λ i lt. list_here i lt)
    where
      list_here : (i : ℕ) → i < n → get_or (lists_there t.lists t.tags.items) i [] ≡ tag_places t.names (charge_at t i).tags
      list_here i lt =
          let there = λ (place : ℕ). get_or t.lists place [] in
          get_or-map there t.tags.items i 0 [] (omega (arith, size.tags, lt)) ∙ sym (list_back t.names distinct (get_or t.lists (get_or t.tags.items i 0) []) (list_kept i lt))

  count_rows : length rows ≡ n
  count_rows = length-map-range_with_len (charge_at t) 0 n

  pub parts_are_columns : n ≤ most_column_rows → length t.lists ≤ n → AreColumns t rows
  unfolding charge_at
  parts_are_columns few lists_few =
      let names = t.names in
      record {
        few = omega (arith, count_rows, few);
        charges = charges;
        names = names_are;
        names_few = let made : length (names_of rows) ≤ most_texts * length rows = names_few rows charges in let same : length t.names ≡ length (names_of rows) = ap length names_are in omega (arith, made, same);
        lists = numbered.seen ∙ ap (with_texts []) lists_are;
        lists_few = omega (arith, count_rows, lists_few);
        billed = column (λ c. c.billed) t.billed.items (pos 0) size.billed (λ i lt. refl);
        effective = column (λ c. c.effective) t.effective.items (pos 0) size.effective (λ i lt. refl);
        billed_range = fields.billed;
        effective_range = fields.effective;
        categories = column (λ c. category_code c.category) t.categories.items 0 size.categories (λ i lt. sym (fields.categories i 0 (omega (arith, size.categories, lt))));
        classes = column (λ c. class_code c.is_correction) t.classes.items 0 size.classes (λ i lt. sym (fields.classes i 0 (omega (arith, size.classes, lt))));
        starts = column (λ c. pos c.start) t.starts.items (pos 0) size.starts (λ i lt. sym (fields.starts i (pos 0) (omega (arith, size.starts, lt))));
        ends = column (λ c. c.end) t.ends.items 0 size.ends (λ i lt. refl);
        discounts =
            column (λ c. id_kept names c.discount) t.discounts.items 0 size.discounts
            (λ i lt.
            sym (ap (text_code names) (id_of (text_of names (get_or t.discounts.items i 0)) (get_or t.kinds.items i 0) (get_or t.statuses.items i 0))
            ∙ code_back names distinct (get_or t.discounts.items i 0) (id_short i lt).within));
        kinds = column (λ c. kind_kept c.discount) t.kinds.items 0 size.kinds (λ i lt. sym (kind_back names _ _ _ _ (have.agree i lt).discount (kind_code_kept i lt)));
        statuses = column (λ c. status_kept c.discount) t.statuses.items 0 size.statuses (λ i lt. sym (status_back names _ _ _ _ (have.agree i lt).discount (status_code_kept i lt)));
        quantities = column (λ c. quantity_kept c.quantity) t.quantities.items (pos 0) size.quantities (λ i lt. sym (have.agree i lt).quantity);
        quantities_range = fields.quantities;
        has_quantity = column (λ c. is_some c.quantity) t.has_quantity.items false size.has_quantity (λ i lt. sym (there_of (get_or t.has_quantity.items i false) (get_or t.quantities.items i (pos 0))));
        units = column (λ c. text_code names c.unit) t.units.items 0 size.units (λ i lt. sym (code_back names distinct (get_or t.units.items i 0) (unit_short i lt).within));
        skus = column (λ c. text_code names c.sku) t.skus.items 0 size.skus (λ i lt. sym (code_back names distinct (get_or t.skus.items i 0) (sku_short i lt).within));
        sub_accounts = column (λ c. text_code names c.sub_account) t.sub_accounts.items 0 size.sub_accounts (λ i lt. sym (code_back names distinct (get_or t.sub_accounts.items i 0) (account_short i lt).within));
        tags = numbered.places ∙ ap (map (place_of t.lists)) lists_are;
      }

pub some_rows : (t : Table) → 0 < length t.billed.items → 0 < length (rows_of t)
unfolding rows_of
some_rows t h = let count : length (map (charge_at t) (range_with_len 0 (length t.billed.items))) ≡ length t.billed.items = length-map-range_with_len (charge_at t) 0 (length t.billed.items) in omega (arith, count, h)

pub are_columns_of_rows : (t : Table) → HasFieldsInRange t → AreNumbered t.lists t.tags.items (lists_there t.lists t.tags.items) → All (IsTagList t.names) t.lists → HaveRows t (length t.billed.items)
    → AreDistinct t.names → length t.lists ≤ length t.tags.items → AreColumns t (rows_of t)
unfolding rows_of
are_columns_of_rows t fields numbered lists have distinct fewer =
    parts_are_columns t (length t.billed.items) fields fields.sizes numbered lists have distinct fields.few (omega (arith, fewer, fields.sizes.tags))
