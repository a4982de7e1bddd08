-- What is spelled by column is read again, whatever follows.
use Rattle.std.proofs.Common.{◌≡◌, ℕ, ◌+◌, ◌-◌, ◌*◌, ◌/◌, ◌<◌, ◌≤◌, Bool, true, false, cond, List, [], ◌∷◌, ◌++◌, length, get_or, take, All, Option, Some, None, Ok, Err, refl, sym, ap, subst, ◌∙◌, arith, append_assoc, length-append}
use Rattle.std.specs.Prelude.{map, option_map, option_to_list, is_some, pos, ℤ, ◌==◌, ◌&&◌, nat_lt, nat_le}
use Rattle.std.specs.Str.{bytes_eq}
use Rattle.std.specs.List.{flat_map, AllByRecursion, list_all}
use Rattle.std.specs.Cmp.Lexicographic.{bytes_decides}
use Rattle.std.proofs.lemmas.Bool.{and_from, and_parts, lt-ltb, le-ltb, le-leb, leb-true}
use Rattle.std.proofs.lemmas.List.{get_or-map, length-map, take_at, map-id}
use Rattle.std.proofs.lemmas.List.Concat.{flat_map_single}
use Rattle.std.proofs.lemmas.List.Folds.{flat_map-map}
use Rattle.std.proofs.lemmas.List.FromFn.{fill_by_all}
use Rattle.std.proofs.lemmas.List.Elements.{All-nil, All-cons, All-head, All-tail, All-append, All-weaker}
use Rattle.fw_bytes.specs.Spelling.{number32, number64, text, listed, within, FitsOptional}
use Rattle.fw_bytes.proofs.Laws.{IsBytes, IsFormat, list_fits, list_parts, ok_is}
use Rattle.fw_charge.specs.Charge.{Charge, DiscountText, IsCharge}
use Rattle.fw_charge.specs.Codes.{category_code, class_code, kind_code, status_code, kind_of, status_of, category_count}
use Rattle.fw_charge.specs.Spelling.{nanos, FitsNanos, FitsSecond, FitsShortText, FitsTagText, FitsTag, FitsTags, FitsDiscount, IsRow, is_short}
use Rattle.fw_charge.specs.Tags.{TagText, most_tags}
use Rattle.fw_charge.specs.declared.category.Category.{Category}
use Rattle.fw_charge.specs.declared.discount.DiscountKind.{DiscountKind}
use Rattle.fw_charge.specs.declared.discount.DiscountKind.TheVariants as kind
use Rattle.fw_charge.specs.declared.discount.DiscountStatus.{DiscountStatus}
use Rattle.fw_charge.specs.declared.discount.DiscountStatus.TheVariants as status
use Rattle.fw_charge.proofs.CodeFacts.{category_there, category_within, class_there, kind_there, status_there}
use Rattle.fw_row_table.specs.Codes.{text_code}
use Rattle.fw_row_table.specs.Lists.{tag_places, lists_of}
use Rattle.fw_row_table.specs.Names.{Text, place_of}
use Rattle.fw_row_table.specs.Table.{id_kept, kind_kept, status_kept, quantity_kept, category_at, class_at, text_at, text_of, quantity_of, tags_of, most_column_rows}
use Rattle.fw_row_table.specs.Texts.{texts_of_tags, texts_of, names_of}
use Rattle.fw_row_table.proofs.NameFacts.{text_at_place}
use Rattle.fw_row_table.proofs.TextFacts.{IsKnown, AreKnown, IsRowKnown, rows-known}
use Rattle.fw_row_table.proofs.ListFacts.{with_texts-all}
use Rattle.fw_row_table.proofs.TableFacts.{text-back, tags-back}
use Rattle.fw_fields.specs.Row.{fields_agree, row_from}
use Rattle.fw_fields.proofs.RowFacts.{parts_of, parts_agree, tags_rise}
use Rattle.fw_fields.proofs.RowOfFields.{row_to, row_from-to}
use Rattle.fw_columns.proofs.PartColumns.{names_few as few_names}
use Rattle.fw_column_bytes.specs.Rows.{fields_of_rows, AreColumnsOf, HaveNoRows}
use Rattle.fw_column_bytes.specs.Kept.{AreRows}
use Rattle.fw_column_bytes.specs.Fits.{FitsTimes, FitsByte, FitsTextCode, FitsPlace, FitsPlaces, FitBody, FitParts}
use Rattle.fw_column_bytes.specs.Spelling.{amounts, periods, discounts, flag, quantities, texts, columns, layout}
use Rattle.fw_column_bytes.specs.Reading.{is_text_code, is_place_code, most_names, Parts, parts_at, fields_at_place, rows_fields, rows_from, columns_at}
use Rattle.fw_column_bytes.proofs.Copied.{counted, lists_spelled}
use Rattle.fw_column_bytes.proofs.PartsFormat.{one_byte, spelled_parts, parts_format}
use Rattle.fw_column_bytes.proofs.RowsRead.{one_more}
use Rattle.fw_column_bytes.proofs.ColumnFacts.{columns_taken}
use Rattle.fw_column_bytes.proofs.ColumnsTaken.{columns_taken_so}

-- ---- their spelling

bytes_are : (code : Charge → ℕ) (rows : List Charge) → flat_map one_byte (map code rows) ≡ map code rows
bytes_are code rows = flat_map_single (λ b. b) (map code rows) ∙ map-id (map code rows)

pub spelled_by_column : (rows : List Charge) → spelled_parts (fields_of_rows (names_of rows) rows) ≡ columns rows
unfolding columns amounts periods discounts quantities texts
spelled_by_column rows =
    let names = names_of rows in
    let e1 = flat_map-map nanos (λ (c : Charge). c.billed) rows in
    let e2 = flat_map-map nanos (λ (c : Charge). c.effective) rows in
    let e3 = bytes_are (λ c. category_code c.category) rows in
    let e4 = bytes_are (λ c. class_code c.is_correction) rows in
    let e5 = flat_map-map number64 (λ (c : Charge). c.start) rows in
    let e6 = flat_map-map number64 (λ (c : Charge). c.end) rows in
    let e7 = flat_map-map number32 (λ (c : Charge). id_kept names c.discount) rows in
    let e8 = bytes_are (λ c. kind_kept c.discount) rows in
    let e9 = bytes_are (λ c. status_kept c.discount) rows in
    let e10 = bytes_are (λ c. flag (is_some c.quantity)) rows in
    let e11 = flat_map-map nanos (λ (c : Charge). quantity_kept c.quantity) rows in
    let e12 = flat_map-map number32 (λ (c : Charge). text_code names c.unit) rows in
    let e13 = flat_map-map number32 (λ (c : Charge). text_code names c.sku) rows in
    let e14 = flat_map-map number32 (λ (c : Charge). text_code names c.sub_account) rows in
    let e15 = lists_spelled names rows in
    ap (λ (w : List ℕ). layout ∷ w) (append_assoc (number32 (length rows)) (listed text names) _)
    ∙ (λ j. layout ∷ (number32 (length rows) ++ (listed text names ++ ((e1 j ++ (e2 j ++ (e3 j ++ e4 j))) ++ ((e5 j ++ e6 j) ++ ((e7 j ++ (e8 j ++ e9 j)) ++ ((e10 j ++ e11 j) ++ ((e12 j ++ (e13 j ++ e14 j)) ++ e15 j))))))))

-- ---- their ranges

abbrev FitsRow : List Text → Charge → Type 0
FitsRow names c = IsRow c × IsRowKnown names c

each_fits : {A : Type 0} (names : List Text) (value : Charge → A) (Fits : A → Type 0) → ((c : Charge) → FitsRow names c → Fits (value c)) → (rows : List Charge) → All (FitsRow names) rows → AllByRecursion Fits (map value rows)
each_fits names value Fits one [] h = tt
each_fits names value Fits one (r ∷ rs) h = (one r (All-head (FitsRow names) r rs h), each_fits names value Fits one rs (All-tail (FitsRow names) r rs h))

times_fit : {A : Type 0} (names : List Text) (value : Charge → A) (Fits : A → Type 0) → ((c : Charge) → FitsRow names c → Fits (value c)) → (rows : List Charge) → All (FitsRow names) rows → FitsTimes (length rows) Fits (map value rows)
times_fit names value Fits one rows h = (length-map rows value, each_fits names value Fits one rows h)

within_from : (low high : Bool) → low ≡ false → high ≡ false → cond low false (cond high false true) ≡ true
within_from low high l h = rw (l, h) refl

category_fits : (c : Category) → FitsByte 1 category_count (category_code c)
category_fits c = let w = category_within c in (tt, within_from _ _ (le-ltb _ _ w.0) (le-ltb _ _ w.1))

class_within : (b : Bool) → within 0 1 (class_code b) ≡ true
unfolding class_code
class_within false = refl
class_within true = refl

flag_within : (b : Bool) → within 0 1 (flag b) ≡ true
unfolding flag
flag_within false = refl
flag_within true = refl

kind_code_within : (k : DiscountKind) → within 0 2 (kind_code (Some k)) ≡ true
unfolding kind_code
kind_code_within kind.Usage = refl
kind_code_within kind.Spend = refl

kind_within : (d : Option DiscountText) → within 0 2 (kind_kept d) ≡ true
unfolding kind_kept
kind_within None = refl
kind_within (Some d) = kind_code_within d.kind

status_code_within : (s : Option DiscountStatus) → within 0 2 (status_code s) ≡ true
unfolding status_code
status_code_within None = refl
status_code_within (Some status.Used) = refl
status_code_within (Some status.Unused) = refl

status_within : (d : Option DiscountText) → within 0 2 (status_kept d) ≡ true
unfolding status_kept
status_within None = refl
status_within (Some d) = status_code_within d.status

second_fits : (n limit : ℕ) → n ≤ limit → limit ≤ 253402300799 → FitsSecond n
second_fits n limit le most = (lt-ltb _ _ (omega (arith, le, most)), le-leb _ _ (omega (arith, le, most)))

quantity_fits : (q : Option ℤ) → FitsOptional FitsNanos q → FitsNanos (quantity_kept q)
unfolding quantity_kept
quantity_fits None h = (refl, refl)
quantity_fits (Some q) h = h

id_fits : (d : Option DiscountText) → FitsOptional FitsDiscount d → FitsOptional FitsShortText (option_map (λ x. x.id) d)
id_fits None h = tt
id_fits (Some d) h = h

module _ (names : List Text) (few : length names < 4294967295) where
  place_fits : (t : Text) → IsKnown names t → FitsPlace names (place_of names t)
  place_fits t known =
      let b : place_of names t < length names = known.below in
      let code : is_place_code names (1 + place_of names t) ≡ true = subst (λ (n : ℕ). is_place_code names n ≡ true) (sym (one_more (place_of names t))) (lt-ltb _ _ b) in
      (lt-ltb _ _ (omega (arith, b, few)), code)

  code_fits : (t : Option Text) → AreKnown names (option_to_list t) → FitsOptional FitsShortText t → FitsTextCode names (text_code names t)
  unfolding text_code text_at
  code_fits None known h = (refl, refl)
  code_fits (Some t) known h =
      let b : place_of names t < length names = known.0.below in
      let there : text_at names (place_of names t) ≡ t = text_at_place names t [] b in
      let short : is_short (text_at names (place_of names t)) ≡ true = ap is_short there ∙ h.1 in
      let code : is_text_code names (1 + place_of names t) ≡ true = subst (λ (n : ℕ). is_text_code names n ≡ true) (sym (one_more (place_of names t))) (and_from _ _ (lt-ltb _ _ b) short) in
      (lt-ltb _ _ (omega (arith, b, few)), code)

  each_place_fits : (ts : List TagText) → AreKnown names (texts_of_tags ts) → AllByRecursion (FitsPlace names) (tag_places names ts)
  unfolding tag_places texts_of_tags
  each_place_fits [] known = tt
  each_place_fits (t ∷ ts) known = (place_fits t.key known.0, (place_fits t.value known.1.0, each_place_fits ts known.1.1))

  twice : (ts : List TagText) → length (tag_places names ts) ≡ 2 * length ts
  unfolding tag_places texts_of_tags
  twice [] = refl
  twice (t ∷ ts) = let rest : length (tag_places names ts) ≡ 2 * length ts = twice ts in omega (arith, rest)

  places_fit : (ts : List TagText) → FitsTags ts → AreKnown names (texts_of_tags ts) → FitsPlaces names (tag_places names ts)
  places_fit ts h known =
      let count : length (tag_places names ts) / 2 ≡ length ts = counted names ts in
      let all : length (tag_places names ts) ≡ 2 * length ts = twice ts in
      let le : length ts ≤ most_tags = (list_parts FitsTag 0 most_tags ts h).1 in
      record {
        even = omega (arith, count, all);
        few = (lt-ltb _ _ (omega (arith, count, le)), le-leb _ _ (omega (arith, count, le)));
        each = each_place_fits ts known;
      }

  body_fits : (rows : List Charge) → All (FitsRow names) rows → FitBody names (length rows) (fields_of_rows names rows).1
  unfolding lists_of
  body_fits rows h = (
    (
      times_fit names (λ c. c.billed) FitsNanos (λ c k. k.0.billed) rows h,
      (
        times_fit names (λ c. c.effective) FitsNanos (λ c k. k.0.effective) rows h,
        (
          times_fit names (λ c. category_code c.category) (FitsByte 1 category_count) (λ c k. category_fits c.category) rows h,
          times_fit names (λ c. class_code c.is_correction) (FitsByte 0 1) (λ c k. (tt, class_within c.is_correction)) rows h,
        ),
      ),
    ),
    (
      (
        times_fit names (λ c. c.start) FitsSecond (λ c k. second_fits c.start c.end k.0.charge.ordered k.0.charge.dated) rows h,
        times_fit names (λ c. c.end) FitsSecond (λ c k. second_fits c.end c.end (omega arith) k.0.charge.dated) rows h,
      ),
      (
        (
          times_fit names (λ c. id_kept names c.discount) (FitsTextCode names) (λ c k. code_fits (option_map (λ x. x.id) c.discount) k.1.discount (id_fits c.discount k.0.discount)) rows h,
          (
            times_fit names (λ c. kind_kept c.discount) (FitsByte 0 2) (λ c k. (tt, kind_within c.discount)) rows h,
            times_fit names (λ c. status_kept c.discount) (FitsByte 0 2) (λ c k. (tt, status_within c.discount)) rows h,
          ),
        ),
        (
          (
            times_fit names (λ c. flag (is_some c.quantity)) (FitsByte 0 1) (λ c k. (tt, flag_within (is_some c.quantity))) rows h,
            times_fit names (λ c. quantity_kept c.quantity) FitsNanos (λ c k. quantity_fits c.quantity k.0.quantity) rows h,
          ),
          (
            (
              times_fit names (λ c. text_code names c.unit) (FitsTextCode names) (λ c k. code_fits c.unit k.1.unit k.0.unit) rows h,
              (
                times_fit names (λ c. text_code names c.sku) (FitsTextCode names) (λ c k. code_fits c.sku k.1.sku k.0.sku) rows h,
                times_fit names (λ c. text_code names c.sub_account) (FitsTextCode names) (λ c k. code_fits c.sub_account k.1.sub_account k.0.sub_account) rows h,
              ),
            ),
            times_fit names (λ c. tag_places names c.tags) (FitsPlaces names) (λ c k. places_fit c.tags k.0.tags k.1.tags) rows h,
          ),
        ),
      ),
    ),
  )

-- ---- the names of rows

short_is_fit : (t : Text) → FitsShortText t → FitsTagText t
short_is_fit t h = (h.0, le-leb _ _ (let le : length t ≤ 256 = leb-true (length t) 256 (and_parts (nat_lt 0 (length t)) (nat_le (length t) 256) h.1).1 in omega (arith, le)))

shorts_fit : (t : Option Text) → FitsOptional FitsShortText t → All FitsTagText (option_to_list t)
shorts_fit None h = All-nil FitsTagText
shorts_fit (Some t) h = All-cons FitsTagText t [] (short_is_fit t h) (All-nil FitsTagText)

tag_texts_fit : (ts : List TagText) → AllByRecursion FitsTag ts → All FitsTagText (texts_of_tags ts)
unfolding texts_of_tags
tag_texts_fit [] h = All-nil FitsTagText
tag_texts_fit (t ∷ ts) h = All-cons FitsTagText t.key (t.value ∷ texts_of_tags ts) h.0.0 (All-cons FitsTagText t.value (texts_of_tags ts) h.0.1 (tag_texts_fit ts h.1))

texts_fit : (rows : List Charge) → All IsRow rows → All FitsTagText (flat_map texts_of rows)
unfolding texts_of
texts_fit [] h = All-nil FitsTagText
texts_fit (r ∷ rs) h =
    let k = All-head IsRow r rs h in
    All-append FitsTagText (texts_of r) (flat_map texts_of rs)
    (All-append FitsTagText _ _ (shorts_fit _ (id_fits r.discount k.discount))
    (All-append FitsTagText _ _ (shorts_fit r.unit k.unit)
    (All-append FitsTagText _ _ (shorts_fit r.sku k.sku)
    (All-append FitsTagText _ _ (shorts_fit r.sub_account k.sub_account) (tag_texts_fit r.tags k.tags.2)))))
    (texts_fit rs (All-tail IsRow r rs h))

pub names_few : (rows : List Charge) → AreRows rows → length (names_of rows) ≤ 33816576
names_few rows h =
    let made = few_names rows (All-weaker IsRow IsCharge (λ c k. k.charge) rows h.each) in
    omega (arith, made, h.few)

names_fit : (rows : List Charge) → All IsRow rows → All FitsTagText (names_of rows)
unfolding names_of
names_fit rows h = with_texts-all FitsTagText [] (flat_map texts_of rows) (All-nil FitsTagText) (texts_fit rows h)

pub parts_fit : (rows : List Charge) → AreRows rows → FitParts (fields_of_rows (names_of rows) rows)
parts_fit rows h =
    let names = names_of rows in
    let few : length names ≤ 33816576 = names_few rows h in
    let known = rows-known rows in
    let both : All (FitsRow names) rows = λ k d lt. (h.each k d lt, known k d lt) in (
      (
        (tt, refl),
        (
          (lt-ltb _ _ (omega (arith, h.few)), within_from (nat_lt (length rows) 1) (nat_lt most_column_rows (length rows)) (le-ltb (length rows) 1 (omega (arith, h.some))) (le-ltb most_column_rows (length rows) h.few)),
          list_fits FitsTagText 0 most_names names (omega arith) (omega (arith, few)) (omega arith) (names_fit rows h.each),
        ),
      ),
      body_fits names (omega (arith, few)) rows both,
    )

-- ---- the rows of these fields

status_again : (s : Option DiscountStatus) → status_of (status_code s) ≡ s
unfolding status_code
status_again None = refl
status_again (Some s) = status_there s

discount_again : (names : List Text) (d : Option DiscountText) → AreKnown names (option_to_list (option_map (λ x. x.id) d)) → (text_of names (id_kept names d), (kind_of (kind_kept d), status_of (status_kept d))) ≡ parts_of d
unfolding kind_kept status_kept
discount_again names None known = rw (text-back names None known) refl
discount_again names (Some d) known = rw (text-back names (Some d.id) known, kind_there d.kind, status_again d.status) refl

quantity_again : (q : Option ℤ) → quantity_of (flag (is_some q) == 1) (quantity_kept q) ≡ q
unfolding quantity_of quantity_kept flag
quantity_again None = refl
quantity_again (Some q) = refl

category_again : (c : Category) → category_at (category_code c) ≡ c
category_again c = rw (category_there c) refl

class_again : (b : Bool) → class_at (class_code b) ≡ b
class_again b = rw (class_there b) refl

module _ (rows : List Charge) (known : All (IsRowKnown (names_of rows)) rows) (i : ℕ) (d : Charge) (lt : i < length rows) where
  pub fields_again : fields_at_place (fields_of_rows (names_of rows) rows) i ≡ row_to (get_or rows i d)
  unfolding fields_at_place lists_of
  fields_again =
      let names = names_of rows in
      let r = get_or rows i d in
      let k = known i d lt in
      let text = λ (t : Charge → Option Text) (there : AreKnown names (option_to_list (t r))).
      ap (text_of names) (get_or-map (λ c. text_code names (t c)) rows i d 0 lt) ∙ text-back names (t r) there in
      let e1 : get_or (map (λ c. c.billed) rows) i (pos 0) ≡ r.billed = get_or-map (λ c. c.billed) rows i d (pos 0) lt in
      let e2 : get_or (map (λ c. c.effective) rows) i (pos 0) ≡ r.effective = get_or-map (λ c. c.effective) rows i d (pos 0) lt in
      let e3 : category_at (get_or (map (λ c. category_code c.category) rows) i 0) ≡ r.category = ap category_at (get_or-map (λ c. category_code c.category) rows i d 0 lt) ∙ category_again r.category in
      let e4 : class_at (get_or (map (λ c. class_code c.is_correction) rows) i 0) ≡ r.is_correction = ap class_at (get_or-map (λ c. class_code c.is_correction) rows i d 0 lt) ∙ class_again r.is_correction in
      let e5 : get_or (map (λ c. c.start) rows) i 0 ≡ r.start = get_or-map (λ c. c.start) rows i d 0 lt in
      let e6 : get_or (map (λ c. c.end) rows) i 0 ≡ r.end = get_or-map (λ c. c.end) rows i d 0 lt in
      let f1 = get_or-map (λ c. id_kept names c.discount) rows i d 0 lt in
      let f2 = get_or-map (λ c. kind_kept c.discount) rows i d 0 lt in
      let f3 = get_or-map (λ c. status_kept c.discount) rows i d 0 lt in
      let e7 : (text_of names (get_or (map (λ c. id_kept names c.discount) rows) i 0), (kind_of (get_or (map (λ c. kind_kept c.discount) rows) i 0), status_of (get_or (map (λ c. status_kept c.discount) rows) i 0))) ≡ parts_of r.discount =
      (λ j. (text_of names (f1 j), (kind_of (f2 j), status_of (f3 j)))) ∙ discount_again names r.discount k.discount in
      let q1 = get_or-map (λ c. flag (is_some c.quantity)) rows i d 0 lt in
      let q2 = get_or-map (λ c. quantity_kept c.quantity) rows i d (pos 0) lt in
      let e8 : quantity_of (get_or (map (λ c. flag (is_some c.quantity)) rows) i 0 == 1) (get_or (map (λ c. quantity_kept c.quantity) rows) i (pos 0)) ≡ r.quantity =
      (λ j. quantity_of (q1 j == 1) (q2 j)) ∙ quantity_again r.quantity in
      let e9 = text (λ c. c.unit) k.unit in
      let e10 = text (λ c. c.sku) k.sku in
      let e11 = text (λ c. c.sub_account) k.sub_account in
      let e12 : tags_of names (get_or (map (λ c. tag_places names c.tags) rows) i []) ≡ r.tags = ap (tags_of names) (get_or-map (λ c. tag_places names c.tags) rows i d [] lt) ∙ tags-back names r.tags k.tags in
      λ j. ((e1 j, (e2 j, (e3 j, e4 j))), ((e5 j, e6 j), (e7 j, ((e8 j, (e9 j, (e10 j, e11 j))), e12 j))))

all_agree : (rows : List Charge) → All IsCharge rows → list_all fields_agree (map row_to rows) ≡ true
all_agree [] h = refl
all_agree (r ∷ rs) h =
    let k = All-head IsCharge r rs h in
    and_from (fields_agree (row_to r)) (list_all fields_agree (map row_to rs)) (and_from _ _ (le-leb _ _ k.ordered) (and_from _ _ (parts_agree r.category r.discount k.discount) (tags_rise r.tags k.tags)))
    (all_agree rs (All-tail IsCharge r rs h))

rows_back : (rows : List Charge) → map row_from (map row_to rows) ≡ rows
rows_back [] = refl
rows_back (r ∷ rs) = λ j. row_from-to r j ∷ rows_back rs j

rows_fields_again : (rows : List Charge) → rows_fields (fields_of_rows (names_of rows) rows) ≡ map row_to rows
unfolding rows_fields
rows_fields_again rows =
    let p = fields_of_rows (names_of rows) rows in
    let first = row_from (fields_at_place p 0) in
    sym (fill_by_all (fields_at_place p) (map row_to rows) (length rows) (fields_at_place p 0) (length-map rows row_to)
    (λ k lt. get_or-map row_to rows k first (fields_at_place p 0) lt ∙ sym (fields_again rows (rows-known rows) k first lt)))

agree_again : (rows : List Charge) → All IsCharge rows → list_all fields_agree (rows_fields (fields_of_rows (names_of rows) rows)) ≡ true
agree_again rows h = ap (list_all fields_agree) (rows_fields_again rows) ∙ all_agree rows h

made_again : (rows : List Charge) → rows_from (fields_of_rows (names_of rows) rows) ≡ rows
unfolding rows_from
made_again rows = ap (map row_from) (rows_fields_again rows) ∙ rows_back rows

-- the fields that are read of rows that are spelled
parts_again : (rows : List Charge) (rest : List ℕ) → AreRows rows → parts_at (columns rows ++ rest) ≡ Ok (fields_of_rows (names_of rows) rows, rest)
parts_again rows rest h =
    let p = fields_of_rows (names_of rows) rows in
    subst (λ (w : List ℕ). parts_at (w ++ rest) ≡ Ok (p, rest)) (spelled_by_column rows) (parts_format.again p rest (parts_fit rows h))

pub columns_again : (rows : List Charge) (rest : List ℕ) → AreRows rows → columns_at (columns rows ++ rest) ≡ Ok (rows, rest)
columns_again rows rest h =
    let p = fields_of_rows (names_of rows) rows in
    let bytes = columns rows ++ rest in
    let size : length (columns rows) ≡ length bytes - length rest = let sum : length bytes ≡ length (columns rows) + length rest = length-append (columns rows) rest in omega (arith, sum) in
    let front : take (length bytes - length rest) bytes ≡ columns rows = take_at (columns rows) rest (length bytes - length rest) size in
    columns_taken bytes (p, rest) rows (parts_again rows rest h) (agree_again rows (All-weaker IsRow IsCharge (λ c k. k.charge) rows h.each)) (made_again rows) ((bytes_decides _ _).1 (sym front))

-- what is read of rows by column is spelled so, and what is spelled so is read
pub columns_format : IsFormat columns_at columns AreRows
columns_format = record { takes = columns_taken_so; again = columns_again }

-- rows whose columns were read are what is read
pub direct_taken : (bytes : List ℕ) (p : Parts × List ℕ) (rows : List Charge) → IsBytes bytes → parts_at bytes ≡ Ok p → AreColumnsOf p.0 rows → columns_at bytes ≡ Ok (rows, p.1)
direct_taken bytes p rows is read h =
    let spelled : columns rows ≡ spelled_parts p.0 = sym (spelled_by_column rows) ∙ ap spelled_parts (sym h.fields) in
    let t = parts_format.takes bytes p is read in
    let whole : bytes ≡ columns rows ++ p.1 = t.0.parts ∙ ap (λ (w : List ℕ). w ++ p.1) (sym spelled) in
    let sum : length bytes ≡ length (columns rows) + length p.1 = ap length whole ∙ length-append (columns rows) p.1 in
    let size : length (columns rows) ≡ length bytes - length p.1 = omega (arith, sum) in
    let front : take (length bytes - length p.1) bytes ≡ columns rows = ap (take (length bytes - length p.1)) whole ∙ take_at (columns rows) p.1 (length bytes - length p.1) size in
    let agree = ap (λ (q : Parts). list_all fields_agree (rows_fields q)) h.fields ∙ agree_again rows h.charges in
    columns_taken bytes p rows read agree (ap rows_from h.fields ∙ made_again rows) ((bytes_decides _ _).1 (sym front))

-- where no rows have the columns that were read, all of it is a fault
pub not_taken : (bytes : List ℕ) (p : Parts × List ℕ) → IsBytes bytes → parts_at bytes ≡ Ok p → HaveNoRows p.0 → columns_at bytes ≡ Err (length bytes)
unfolding columns_at
not_taken bytes p is read none = by (list_all fields_agree (rows_fields p.0) && bytes_eq (columns (rows_from p.0)) (take (length bytes - length p.1) bytes)) refl
  where
    by : (test : Bool) → (list_all fields_agree (rows_fields p.0) && bytes_eq (columns (rows_from p.0)) (take (length bytes - length p.1) bytes)) ≡ test → columns_at bytes ≡ Err (length bytes)
    by false e = rw (read, e) refl
    by true e =
        let x : List Charge × List ℕ = (rows_from p.0, p.1) in
        let taken : columns_at bytes ≡ Ok x = rw (read, e) refl in
        let t = columns_taken_so bytes x is taken in
        let q : Parts × List ℕ = (fields_of_rows (names_of x.0) x.0, x.1) in
        let same : p ≡ q = ok_is p q (sym read ∙ (ap parts_at t.0.parts ∙ parts_again x.0 x.1 t.1)) in
        absurd (none x.0 t.1 (record { charges = All-weaker IsRow IsCharge (λ c k. k.charge) x.0 t.1.each; fields = ap (λ (y : Parts × List ℕ). y.0) same }))

-- rows that have the same bytes are the same
pub one_spelling : (xs ys : List Charge) → AreRows xs → AreRows ys → columns xs ≡ columns ys → xs ≡ ys
one_spelling xs ys h k e =
    let one : List Charge × List ℕ = (xs, []) in
    let other : List Charge × List ℕ = (ys, []) in
    let same : one ≡ other = ok_is one other (sym (columns_again xs [] h) ∙ (ap (λ (w : List ℕ). columns_at (w ++ [])) e ∙ columns_again ys [] k)) in
    ap (λ (x : List Charge × List ℕ). x.0) same
