-- How many bytes rows have where they are written, by the codes of their texts and of their lists of tags; and that each has a spelling.
use Rattle.std.proofs.Common.{◌≡◌, ◌∙◌, ◌+◌, ◌*◌, ◌<◌, ◌≤◌, ℕ, zero, suc, ℤ, pos, nat_abs, Bool, true, false, List, [], ◌∷◌, length, map, get_or, Option, Some, None, if◌then◌else◌, refl, sym, ap, subst, arith, length-append}
use Rattle.std.specs.Prelude.{option_map, option_to_list, All, IfSome, IsUtf8}
use Rattle.std.specs.List.{flat_map}
use Rattle.std.proofs.lemmas.List.{get_or-map}
use Rattle.std.proofs.lemmas.List.Elements.{All-nil, All-cons, All-head, All-tail, All-append}
use Rattle.fw_bytes.specs.Spelling.{optional, text, FitsOptional}
use Rattle.fw_charge.proofs.Fitting.{fits_nanos, fits_short_text}
use Rattle.fw_charge.specs.Charge.{Charge, DiscountText, IsCharge, IsDiscountOf, IsShortText}
use Rattle.fw_charge.specs.Spelling.{amounts, consumed, discount, nanos, period, row, tag, FitsDiscount, FitsNanos, FitsShortText, IsRow}
use Rattle.fw_charge.specs.Tags.{TagText, IsTagSized, IsTags, longest_tag_text}
use Rattle.fw_charge.specs.declared.category.Category.{Category}
use Rattle.fw_money.specs.Amount.{most_nanos}
use Rattle.fw_row_table.specs.Lists.{lists_of, tag_places}
use Rattle.fw_row_table.specs.Names.{Text}
use Rattle.fw_row_table.specs.Table.{AreColumns, charge_at, discount_of, list_at, quantity_of, tags_of, text_at, text_of}
use Rattle.fw_row_table.specs.Texts.{names_of, texts_of, texts_of_tags}
use Rattle.fw_row_table.specs.declared.table.Table.{Table}
use Rattle.fw_row_table.proofs.ListFacts.{with_texts-all}
use Rattle.fw_row_table.proofs.RowFacts.{has_row}
use Rattle.fw_row_table.proofs.SpelledFacts.{known_are_text, known_is_text, tags_fit}
use Rattle.fw_row_table.proofs.TableFacts.{row-shown, rows_known, tags-back}
use Rattle.fw_row_table.proofs.TextFacts.{AreKnown, IsRowKnown}

-- ---- the length of a row, field by field

row_length : (c : Charge) → length (row c) ≡ 38 + length (discount c.discount) + length (optional nanos c.quantity) + length (optional text c.unit) + length (optional text c.sku) + length (optional text c.sub_account) + length (flat_map tag c.tags)
unfolding row amounts period consumed
row_length c = simp length-append (omega arith)

discount_length : (id : Option Text) (kind status : ℕ) → length (discount (discount_of id kind status)) ≡ length (optional text id) + 2
unfolding discount discount_of
discount_length None kind status = refl
discount_length (Some id) kind status = simp length-append (omega arith)

quantity_length : (there : Bool) (q : ℤ) → length (optional nanos (quantity_of there q)) ≡ (if there then 9 else 1)
unfolding quantity_of
quantity_length true q = refl
quantity_length false q = refl

-- the length of a text that may be null, by its code
pub text_length : (names : List Text) (lens : List ℕ) (code e : ℕ) → lens ≡ 1 ∷ map (λ name. 5 + length name) names → code ≤ length names → get_or lens code e ≡ length (optional text (text_of names code))
unfolding text_of text_at
text_length names lens zero e are within = ap (λ (xs : List ℕ). get_or xs 0 e) are
text_length names lens (suc place) e are within =
    let at : get_or (map (λ (name : Text). 5 + length name) names) place e ≡ 5 + length (get_or names place []) = get_or-map (λ (name : Text). 5 + length name) names place [] e (omega (arith, within)) in
    ap (λ (xs : List ℕ). get_or xs (suc place) e) are ∙ at ∙ omega arith

-- the length of a list of tags, by its code
pub list_length : (t : Table) (lens : List ℕ) (i e : ℕ) → lens ≡ map (λ list. length (flat_map tag (tags_of t.names list))) t.lists → get_or t.tags.items i 0 < length t.lists → get_or lens (get_or t.tags.items i 0) e ≡ length (flat_map tag (tags_of t.names (list_at t i)))
unfolding list_at
list_length t lens i e are within =
    ap (λ (xs : List ℕ). get_or xs (get_or t.tags.items i 0) e) are
    ∙ get_or-map (λ (list : List ℕ). length (flat_map tag (tags_of t.names list))) t.lists (get_or t.tags.items i 0) [] e within

-- the length of the row at a place
pub length_at : (t : Table) (i : ℕ) → length (row (charge_at t i)) ≡ 40 + (if get_or t.has_quantity.items i false then 9 else 1) + length (optional text (text_of t.names (get_or t.discounts.items i 0))) + length (optional text (text_of t.names (get_or t.units.items i 0))) + length (optional text (text_of t.names (get_or t.skus.items i 0))) + length (optional text (text_of t.names (get_or t.sub_accounts.items i 0))) + length (flat_map tag (tags_of t.names (list_at t i)))
unfolding charge_at
length_at t i =
    let all = row_length (charge_at t i) in
    let id = discount_length (text_of t.names (get_or t.discounts.items i 0)) (get_or t.kinds.items i 0) (get_or t.statuses.items i 0) in
    let quantity = quantity_length (get_or t.has_quantity.items i false) (get_or t.quantities.items i (pos 0)) in
    omega (arith, all, id, quantity)

-- ---- rows of columns are short

short_text : (t : Option Text) → IfSome t IsShortText → length (optional text t) ≤ 261
short_text None short = omega arith
short_text (Some t) short = omega (arith, short.few)

short_discount : (c : Category) (d : Option DiscountText) → IfSome d (IsDiscountOf c) → length (discount d) ≤ 263
unfolding discount
short_discount c None short = omega arith
short_discount c (Some d) short = simp length-append (omega (arith, short.id.few))

short_quantity : (q : Option ℤ) → length (optional nanos q) ≤ 9
short_quantity None = omega arith
short_quantity (Some q) = omega arith

short_tags : (ts : List TagText) → All IsTagSized ts → length (flat_map tag ts) ≤ 2056 * length ts
short_tags [] sized = omega arith
short_tags (t ∷ ts) sized =
    let one = All-head IsTagSized t ts sized in
    let rest = short_tags ts (All-tail IsTagSized t ts sized) in
    omega (arith, one.key, one.value, rest, length-append (tag t) (flat_map tag ts), length-append (text t.key) (text t.value))

short_row : (c : Charge) → IsCharge c → length (row c) ≤ 527429
short_row c is =
    let tags = short_tags c.tags is.tags.sized in
    omega (arith, row_length c, short_discount c.category c.discount is.discount, short_quantity c.quantity, short_text c.unit is.unit, short_text c.sku is.sku, short_text c.sub_account is.sub_account, tags, is.tags.few)

pub short_rows : (rows : List Charge) → All IsCharge rows → length (flat_map row rows) ≤ 527429 * length rows
short_rows [] are = omega arith
short_rows (r ∷ rs) are =
    let one = short_row r (All-head IsCharge r rs are) in
    let rest = short_rows rs (All-tail IsCharge r rs are) in
    omega (arith, one, rest, length-append (row r) (flat_map row rs))

-- ---- the names are short, and the lists are tags

abbrev IsSized : Text → Type 0
IsSized t = length t ≤ longest_tag_text

sized_text : (t : Option Text) → IfSome t IsShortText → All IsSized (option_to_list t)
sized_text None h = All-nil IsSized
sized_text (Some t) h = All-cons IsSized t [] (omega (arith, h.few)) (All-nil IsSized)

sized_id : (c : Category) (d : Option DiscountText) → IfSome d (IsDiscountOf c) → All IsSized (option_to_list (option_map (λ x. x.id) d))
sized_id c None h = All-nil IsSized
sized_id c (Some d) h = All-cons IsSized d.id [] (omega (arith, h.id.few)) (All-nil IsSized)

sized_tags : (ts : List TagText) → All IsTagSized ts → All IsSized (texts_of_tags ts)
unfolding texts_of_tags
sized_tags [] h = All-nil IsSized
sized_tags (t ∷ ts) h =
    let one = All-head IsTagSized t ts h in
    All-cons IsSized t.key (t.value ∷ texts_of_tags ts) one.key (All-cons IsSized t.value (texts_of_tags ts) one.value (sized_tags ts (All-tail IsTagSized t ts h)))

sized_row : (c : Charge) → IsCharge c → All IsSized (texts_of c)
unfolding texts_of
sized_row c h =
    All-append IsSized _ _ (sized_id c.category c.discount h.discount)
    (All-append IsSized _ _ (sized_text c.unit h.unit)
    (All-append IsSized _ _ (sized_text c.sku h.sku)
    (All-append IsSized _ _ (sized_text c.sub_account h.sub_account) (sized_tags c.tags h.tags.sized))))

sized_rows : (rows : List Charge) → All IsCharge rows → All IsSized (flat_map texts_of rows)
sized_rows [] h = All-nil IsSized
sized_rows (r ∷ rs) h =
    All-append IsSized (texts_of r) (flat_map texts_of rs) (sized_row r (All-head IsCharge r rs h)) (sized_rows rs (All-tail IsCharge r rs h))

pub names_sized : (rows : List Charge) → All IsCharge rows → All (λ text. length text ≤ longest_tag_text) (names_of rows)
unfolding names_of
names_sized rows h = with_texts-all IsSized [] (flat_map texts_of rows) (All-nil IsSized) (sized_rows rows h)

row_tags : (names : List Text) (rows : List Charge) → All IsCharge rows → All (IsRowKnown names) rows → All (λ list. IsTags (tags_of names list)) (lists_of names rows)
unfolding lists_of
row_tags names [] are known = All-nil (λ list. IsTags (tags_of names list))
row_tags names (r ∷ rs) are known =
    let back = tags-back names r.tags (All-head (IsRowKnown names) r rs known).tags in
    All-cons (λ list. IsTags (tags_of names list)) (tag_places names r.tags) (lists_of names rs) (subst IsTags (sym back) (All-head IsCharge r rs are).tags)
    (row_tags names rs (All-tail IsCharge r rs are) (All-tail (IsRowKnown names) r rs known))

pub lists_are_tags : (t : Table) (rows : List Charge) → AreColumns t rows → All (λ list. IsTags (tags_of t.names list)) t.lists
lists_are_tags t rows columns =
    let IsKept : List ℕ → Type 0 = λ list. IsTags (tags_of t.names list) in
    subst (All IsKept) (sym columns.lists) (with_texts-all IsKept [] (lists_of t.names rows) (All-nil IsKept) (row_tags t.names rows columns.charges (rows_known t rows columns)))

-- ---- each row has a spelling

fits_quantity : (there : Bool) (q : ℤ) → nat_abs q ≤ most_nanos → FitsOptional FitsNanos (quantity_of there q)
unfolding quantity_of
fits_quantity true q range = fits_nanos q range
fits_quantity false q range = tt

fits_text : (names : List Text) (t : Option Text) → All IsUtf8 names → IfSome t IsShortText → AreKnown names (option_to_list t) → FitsOptional FitsShortText t
fits_text names None all short known = tt
fits_text names (Some t) all short known = fits_short_text t short (known_is_text names t all known.0)

fits_id : (names : List Text) (c : Category) (d : Option DiscountText) → All IsUtf8 names → IfSome d (IsDiscountOf c) → AreKnown names (option_to_list (option_map (λ x. x.id) d)) → FitsOptional FitsDiscount d
fits_id names c None all is known = tt
fits_id names c (Some d) all is known = fits_short_text d.id is.id (known_is_text names d.id all known.0)

pub rows_fit : (t : Table) (rows : List Charge) → AreColumns t rows → All IsUtf8 t.names → All IsRow rows
unfolding charge_at
rows_fit t rows columns all = λ i d within.
    let has = has_row t rows columns i within in
    let c = get_or rows i d in
    let is = columns.charges i d within in
    let known = rows_known t rows columns i d within in
    let shown : charge_at t i ≡ c = row-shown t rows columns i d within in
    record {
      charge = is;
      billed = subst FitsNanos (ap (λ (c : Charge). c.billed) shown) (fits_nanos (get_or t.billed.items i (pos 0)) has.billed_range);
      effective = subst FitsNanos (ap (λ (c : Charge). c.effective) shown) (fits_nanos (get_or t.effective.items i (pos 0)) has.effective_range);
      quantity = subst (FitsOptional FitsNanos) (ap (λ (c : Charge). c.quantity) shown) (fits_quantity (get_or t.has_quantity.items i false) (get_or t.quantities.items i (pos 0)) has.quantity_range);
      discount = fits_id t.names c.category c.discount all is.discount known.discount;
      unit = fits_text t.names c.unit all is.unit known.unit;
      sku = fits_text t.names c.sku all is.sku known.sku;
      sub_account = fits_text t.names c.sub_account all is.sub_account known.sub_account;
      tags = tags_fit c is (known_are_text t.names c.tags all known.tags);
    }
