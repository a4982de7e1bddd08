-- Lemmas on what a selector sees of rows: lines with the same texts are alike to it.
use Rattle.std.proofs.Common.{◌≡◌, ◌∙◌, ℕ, zero, suc, ◌+◌, ◌<◌, Bool, true, false, not, ◌||◌, if◌then◌else◌, List, [], ◌∷◌, ◌++◌, length, map, filter, get_or, Option, Some, None, option_map, slice_get, sym, ap, refl, subst, arith}
use Rattle.std.proofs.lemmas.Option.{get_or_from_slice_get, slice_get-map, slice_get_within}
use Rattle.std.proofs.lemmas.List.{length-map}
use Rattle.std.specs.Borrow.{Bor}
use Rattle.std.specs.List.{AllByRecursion, list_any}
use Rattle.std.specs.Prelude.{option_to_list}
use Rattle.fw_charge.specs.Charge.{Charge, DiscountText}
use Rattle.fw_charge.specs.Codes.{category_code, category_of, category_word, status_code, status_word}
use Rattle.fw_charge.specs.Tags.{group_of}
use Rattle.fw_charge.specs.declared.category.Category.{Category}
use Rattle.fw_charge.specs.declared.category.Category.TheVariants as category
use Rattle.fw_charge.specs.declared.discount.DiscountStatus.TheVariants as status
use Rattle.fw_columns.specs.Codes.{AgreeWithGroups, tag_code}
use Rattle.fw_row_table.specs.Codes.{text_code}
use Rattle.fw_row_table.specs.Names.{Text, place_of}
use Rattle.fw_row_table.specs.Table.{status_kept}
use Rattle.fw_row_table.specs.Texts.{names_of}
use Rattle.fw_row_table.proofs.NameFacts.{text_at_place}
use Rattle.fw_row_table.proofs.TextFacts.{AreKnown, IsKnown, IsRowKnown, rows-known}
use Rattle.fw_amortise.specs.LineValue.{LineValue}
use Rattle.fw_query.specs.Texts.{id_text, or_empty, status_text}
use Rattle.fw_select.specs.Apart.{TellApart}
use Rattle.fw_select.specs.Keys.{mapped, source_text, value}
use Rattle.fw_select.specs.Rows.{AgreeOn, AgreeOnAll, AreAlike, plain_line, row_text, sources_of}
use Rattle.fw_select.specs.Selectors.{fails, group_by, is_value}
use Rattle.fw_select.specs.declared.key.Column.TheVariants as column
use Rattle.fw_select.specs.declared.key.Key.{Key}
use Rattle.fw_select.specs.declared.key.Source.{Source}
use Rattle.fw_select.specs.declared.key.Source.TheVariants as source
use Rattle.fw_select.specs.declared.selector.Filter.{Filter}
use Rattle.fw_select.specs.declared.selector.Selector.{Selector}

-- ---- lists of which each element has something

pub all_left : {X : Type 0} (P : X → Type 0) (xs ys : List X) → AllByRecursion P (xs ++ ys) → AllByRecursion P xs
all_left P [] ys h = tt
all_left P (x ∷ xs) ys h = (h.0, all_left P xs ys h.1)

pub all_right : {X : Type 0} (P : X → Type 0) (xs ys : List X) → AllByRecursion P (xs ++ ys) → AllByRecursion P ys
all_right P [] ys h = h
all_right P (x ∷ xs) ys h = all_right P xs ys h.1

pub all_push : {X : Type 0} (P : X → Type 0) (xs : List X) (x : X) → AllByRecursion P xs → P x → AllByRecursion P (xs ++ x ∷ [])
all_push P [] x h here = (here, tt)
all_push P (y ∷ xs) x h here = (h.0, all_push P xs x h.1 here)

pub all_of : {X : Type 0} (P : X → Type 0) → ((x : X) → P x) → (xs : List X) → AllByRecursion P xs
all_of P f [] = tt
all_of P f (x ∷ xs) = (f x, all_of P f xs)

-- ---- lines with the same texts

-- two lines have one text under a source
abbrev pub SameText : LineValue → LineValue → Source → Type 0
SameText a b source = source_text source a ≡ source_text source b

value_same : (k : Key) (a b : LineValue) → SameText a b k.source → value k a ≡ value k b
unfolding value
value_same k a b same = ap (mapped k.map) same

pub group_same : (keys : List Key) (a b : LineValue) → AllByRecursion (SameText a b) (map (λ k. k.source) keys) → group_by keys a ≡ group_by keys b
group_same [] a b same = refl
group_same (k ∷ keys) a b same = let rest = group_same keys a b same.1 in λ j. value_same k a b same.0 j ∷ rest j

fails_same : (f : Filter) (a b : LineValue) → SameText a b f.key.source → fails f a ≡ fails f b
fails_same f a b same = ap (λ v. if f.is_one then not (is_value f.values.now v) else is_value f.values.now v) (value_same f.key a b same)

pub some_fails : (filters : List Filter) (a b : LineValue) → AllByRecursion (SameText a b) (map (λ f. f.key.source) filters) → list_any (λ f. fails f a) filters ≡ list_any (λ f. fails f b) filters
some_fails [] a b same = refl
some_fails (f ∷ filters) a b same = let rest = some_fails filters a b same.1 in λ j. fails_same f a b same.0 j || rest j

-- rows with the same texts are alike
pub alike : (s : Selector) (a b : Charge) → AllByRecursion (λ source. row_text source a ≡ row_text source b) (sources_of s) → AreAlike s a b
alike s a b same =
    let P = SameText (plain_line a) (plain_line b) in
    record {
      taken = ap not (some_fails s.filters.now (plain_line a) (plain_line b) (all_right P (map (λ k. k.source) s.keys.now) (map (λ f. f.key.source) s.filters.now) same));
      group = group_same s.keys.now (plain_line a) (plain_line b) (all_left P (map (λ k. k.source) s.keys.now) (map (λ f. f.key.source) s.filters.now) same);
    }

-- ---- rows that are told apart

pub told_more : (sources : List Source) (source : Source) (rows : List Charge) (old codes new : List ℕ) → AgreeOn source rows codes → TellApart old codes new → AgreeOnAll sources rows old
    → AgreeOnAll (sources ++ source ∷ []) rows new
told_more sources source rows old codes new agree tell told = record {
  long = tell.long ∙ told.long;
  same = λ p q a b at bt e.
      let p_below : p < length rows = slice_get_within rows p a at in
      let q_below : q < length rows = slice_get_within rows q b bt in
      let long = told.long in
      let both = tell.apart p q (omega arith) (omega arith) e in
      all_push (λ source. row_text source a ≡ row_text source b) sources source (told.same p q a b at bt both.0) (agree.same p q a b at bt both.1);
}

-- ---- codes

-- codes that are made of each row alone
pub agree_by : (source : Source) (rows : List Charge) (f : Charge → ℕ) (codes : List ℕ) → codes ≡ map f rows
    → ((a b : Charge) → IsRowKnown (names_of rows) a → IsRowKnown (names_of rows) b → f a ≡ f b → row_text source a ≡ row_text source b) → AgreeOn source rows codes
agree_by source rows f codes is same = record {
  long = ap length is ∙ length-map rows f;
  same = λ p q a b at bt e. same a b (known p a at) (known q b bt) (sym (code p a at) ∙ e ∙ code q b bt);
}
  where
    known : (p : ℕ) (a : Charge) → slice_get rows p ≡ Some a → IsRowKnown (names_of rows) a
    known p a at = subst (IsRowKnown (names_of rows)) (get_or_from_slice_get rows p a a at) (rows-known rows p a (slice_get_within rows p a at))

    code : (p : ℕ) (a : Charge) → slice_get rows p ≡ Some a → get_or codes p 0 ≡ f a
    code p a at = ap (λ l. get_or l p 0) is ∙ get_or_from_slice_get (map f rows) p (f a) 0 (slice_get-map f rows p ∙ ap (option_map f) at)

-- a known text is the only one at its place
known_place : (names : List Text) (t u : Text) → IsKnown names t → IsKnown names u → place_of names t ≡ place_of names u → t ≡ u
known_place names t u h k e = sym (text_at_place names t [] h.below) ∙ ap (λ p. get_or names p []) e ∙ text_at_place names u [] k.below

-- known texts that may be null, with one code
texts_same : (names : List Text) (t u : Option Text) → AreKnown names (option_to_list t) → AreKnown names (option_to_list u) → text_code names t ≡ text_code names u → or_empty (λ s. s) t ≡ or_empty (λ s. s) u
unfolding text_code
texts_same names None None h k e = refl
texts_same names None (Some u) h k e = let no : ⊥ = omega arith in absurd no
texts_same names (Some t) None h k e = let no : ⊥ = omega arith in absurd no
texts_same names (Some t) (Some u) h k e = known_place names t u h.0 k.0 (omega arith)

id_is : (d : Option DiscountText) → or_empty (λ s. s) (option_map (λ (x : DiscountText). x.id) d) ≡ id_text d
id_is None = refl
id_is (Some d) = refl

category_is : (c : Category) → category_of (category_code c) ≡ Some c
unfolding category_code
category_is category.Usage = refl
category_is category.Purchase = refl
category_is category.Tax = refl
category_is category.Credit = refl
category_is category.Adjustment = refl

categories_same : (c d : Category) → category_code c ≡ category_code d → category_word c ≡ category_word d
categories_same c d e =
    let same : Some c ≡ Some d = sym (category_is c) ∙ ap category_of e ∙ category_is d in
    let one : c ≡ d = cc in
    ap category_word one

-- the word of a status, by its code
word_at : ℕ → List ℕ
word_at zero = []
word_at (suc zero) = status_word status.Used
word_at (suc (suc n)) = status_word status.Unused

status_is : (d : Option DiscountText) → status_text d ≡ word_at (status_kept d)
unfolding status_kept status_code word_at
status_is None = refl
status_is (Some d) = by d.status
  where
    by : (s : Option _) → or_empty status_word s ≡ word_at (status_code s)
    by None = refl
    by (Some status.Used) = refl
    by (Some status.Unused) = refl

statuses_same : (c d : Option DiscountText) → status_kept c ≡ status_kept d → status_text c ≡ status_text d
statuses_same c d e = status_is c ∙ ap word_at e ∙ sym (status_is d)

module _ (rows : List Charge) (codes : List ℕ) where
  pub tags_agree : (name : Bor (List ℕ)) → codes ≡ map (tag_code name.now (names_of rows)) rows → AgreeWithGroups name.now rows codes → AgreeOn (source.Tag name) rows codes
  unfolding AgreeWithGroups
  tags_agree name is agree = record {
    long = ap length is ∙ length-map rows (tag_code name.now (names_of rows));
    same = λ p q a b at bt e. (agree p q a b at bt).0 e;
  }

  pub skus_agree : codes ≡ map (λ c. text_code (names_of rows) c.sku) rows → AgreeOn (source.Column column.SkuId) rows codes
  skus_agree is = agree_by (source.Column column.SkuId) rows (λ c. text_code (names_of rows) c.sku) codes is (λ a b h k e. texts_same (names_of rows) a.sku b.sku h.sku k.sku e)

  pub accounts_agree : codes ≡ map (λ c. text_code (names_of rows) c.sub_account) rows → AgreeOn (source.Column column.SubAccountId) rows codes
  accounts_agree is =
      agree_by (source.Column column.SubAccountId) rows (λ c. text_code (names_of rows) c.sub_account) codes is (λ a b h k e. texts_same (names_of rows) a.sub_account b.sub_account h.sub_account k.sub_account e)

  pub categories_agree : codes ≡ map (λ c. category_code c.category) rows → AgreeOn (source.Column column.ChargeCategory) rows codes
  categories_agree is = agree_by (source.Column column.ChargeCategory) rows (λ c. category_code c.category) codes is (λ a b h k e. categories_same a.category b.category e)

  pub discounts_agree : codes ≡ map (λ c. text_code (names_of rows) (option_map (λ (d : DiscountText). d.id) c.discount)) rows → AgreeOn (source.Column column.CommitmentDiscountId) rows codes
  discounts_agree is =
      agree_by (source.Column column.CommitmentDiscountId) rows (λ c. text_code (names_of rows) (option_map (λ (d : DiscountText). d.id) c.discount)) codes is
      (λ a b h k e. sym (id_is a.discount) ∙ texts_same (names_of rows) (option_map (λ (d : DiscountText). d.id) a.discount) (option_map (λ (d : DiscountText). d.id) b.discount) h.discount k.discount e ∙ id_is b.discount)

  pub statuses_agree : codes ≡ map (λ c. status_kept c.discount) rows → AgreeOn (source.Column column.CommitmentDiscountStatus) rows codes
  statuses_agree is = agree_by (source.Column column.CommitmentDiscountStatus) rows (λ c. status_kept c.discount) codes is (λ a b h k e. statuses_same a.discount b.discount e)
