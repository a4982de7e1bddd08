-- Columns that were put together elsewhere and were checked are those of rows.
use Rattle.std.proofs.Common.{◌≡◌, ℕ, zero, suc, ◌+◌, ◌-◌, ◌<◌, ◌≤◌, ℤ, Bool, true, false, List, [], ◌∷◌, ◌++◌, length, get_or, map, take, Option, Some, None, refl, sym, ap, subst, ◌∙◌, arith, append_assoc, length-append, true≢false, eqb, ltb, ◌≢◌, ◌⊎◌, inl, inr}
use Rattle.std.specs.Prelude.{◌↔◌, ◌/◌, All, option_to_list, pos, negsuc, nat_abs, IfNone, IfSome, IsSome}
use Rattle.std.specs.List.{IsDistinct, list_any, position_or_len, flat_map, range_with_len}
use Rattle.std.specs.Str.{bytes_eq}
use Rattle.std.specs.Cmp.Lexicographic.{bytes_decides}
use Rattle.std.proofs.lemmas.List.{take_more, take_all, get_or-take, length-take-le}
use Rattle.std.proofs.lemmas.List.Elements.{All-nil, All-cons, All-head, All-tail, All-push, All-weaker}
use Rattle.std.proofs.lemmas.Bool.{ltb-true, ltb-false}
use Rattle.std.proofs.lemmas.Bool.Decides.{eqb_tells}
use Rattle.std.proofs.lemmas.List.{append-nil}
use Rattle.std.proofs.lemmas.List.Folds.{flat_map-map}
use Rattle.std.proofs.lemmas.List.FromFn.{map-range_with_len_more}
use Rattle.std.proofs.lemmas.Grind.{flat_map-append}
use Rattle.fw_bytes.specs.Order.{rise}
use Rattle.fw_bytes.proofs.Rising.{sorted_from_rise}
use Rattle.fw_charge.specs.Tags.{IsTagSized, longest_tag_text, most_tags}
use Rattle.fw_row_table.proofs.LendingFacts.{tags_counted}
use Rattle.fw_charge.specs.Charge.{IsDiscountOf}
use Rattle.fw_charge.specs.Codes.{kind_code, kind_of, status_code, status_of}
use Rattle.fw_charge.specs.declared.category.Category.{Category}
use Rattle.fw_row_table.specs.Names.{Text, AreDistinct, place_of, with_text}
use Rattle.fw_row_table.specs.Texts.{with_texts}
use Rattle.fw_row_table.specs.Table.{kind_at, kind_kept, status_kept, quantity_kept, text_at, text_of, discount_of, quantity_of, tag_of, tags_of}
use Rattle.fw_columns.specs.Parts.{AreDiscountCodes, AreListsSeen, ArePlacesOfTags, IsShortCode, IsTagList, HaveSeen, AreOutOfTurn, AreNumbered, lists_there}
use Rattle.fw_row_table.proofs.NameFacts.{at_its_end, is_new, place-kept, place_at, stays_distinct, text_at_place}
use Rattle.fw_row_table.proofs.TextFacts.{IsKnown, AreKnown, AreKnown-seen, known_adds_nothing, with_texts-append, with_texts-grows}
use Rattle.fw_row_table.proofs.ListFacts.{listed_more}

-- ---- what a test answers

pub yes : {A : Type 0} → A → (true ≡ true) ↔ A
yes a = (λ e. a, λ h. refl)

pub no : {A : Type 0} → (A → ⊥) → (false ≡ true) ↔ A
no f = (λ e. absurd cc, λ h. absurd (f h))

pub refused : {A : Type 0} (b : Bool) → b ≡ false → (A → b ≡ true) → (false ≡ true) ↔ A
refused b not_ all = no (λ a. true≢false (sym (all a) ∙ not_))

-- ---- quantities

pub quantity_there : (b : Bool) (z : ℤ) → b ≡ true → quantity_kept (quantity_of b z) ≡ z
unfolding quantity_kept quantity_of
quantity_there true z e = refl
quantity_there false z e = absurd cc

pub quantity_null : (b : Bool) (z : ℤ) → pos 0 ≡ z → quantity_kept (quantity_of b z) ≡ z
unfolding quantity_kept quantity_of
quantity_null true z e = refl
quantity_null false z e = e

pub null_is_zero : (b : Bool) (z : ℤ) → b ≡ false → quantity_kept (quantity_of b z) ≡ z → nat_abs z ≡ 0
unfolding quantity_kept quantity_of
null_is_zero true z f e = absurd cc
null_is_zero false z f e = ap nat_abs (sym e)

pub zero_abs : (z : ℤ) → nat_abs z ≡ 0 → pos 0 ≡ z
zero_abs (pos zero) e = refl
zero_abs (pos (suc n)) e = absurd cc
zero_abs (negsuc n) e = absurd cc

-- ---- discounts

kind_stays : (code : ℕ) → kind_code (kind_of code) ≡ code → code ≢ 0 → kind_code (Some (kind_at code)) ≡ code
unfolding kind_code
kind_stays zero h some = absurd (some refl)
kind_stays (suc zero) h some = refl
kind_stays (suc (suc zero)) h some = refl
kind_stays (suc (suc (suc b))) h some = absurd cc

kind_some : (code : ℕ) → kind_code (Some (kind_at code)) ≡ code → code ≢ 0
unfolding kind_code
kind_some zero h = absurd cc
kind_some (suc b) h = λ e. absurd cc

status_there : (code : ℕ) → status_code (status_of code) ≡ code → code ≢ 0 → IsSome (status_of code)
unfolding status_code
status_there zero h some = absurd (some refl)
status_there (suc zero) h some = refl
status_there (suc (suc zero)) h some = refl
status_there (suc (suc (suc b))) h some = absurd cc

status_some : (code : ℕ) → IsSome (status_of code) → code ≢ 0
status_some zero h = absurd cc
status_some (suc b) h = λ e. absurd cc

-- what codes of a discount that agree stand for
module _ (names : List Text) (c : Category) where
  pub discount_rules : (id k s : ℕ) → AreDiscountCodes c id k s → IsShortCode names id → status_code (status_of s) ≡ s → IfSome (discount_of (text_of names id) k s) (IsDiscountOf c)
  unfolding text_of discount_of
  discount_rules zero k s agree short kept = tt
  discount_rules (suc p) k s agree short kept = record { id = short.short; status = λ usage. status_there s kept (agree.status (λ e. absurd cc) usage) }

  pub kind_back : (id k s : ℕ) → AreDiscountCodes c id k s → kind_code (kind_of k) ≡ k → kind_kept (discount_of (text_of names id) k s) ≡ k
  unfolding text_of discount_of kind_kept
  kind_back zero k s agree kept = sym (agree.null refl).0
  kind_back (suc p) k s agree kept = kind_stays k kept (agree.kind (λ e. absurd cc))

  pub status_back : (id k s : ℕ) → AreDiscountCodes c id k s → status_code (status_of s) ≡ s → status_kept (discount_of (text_of names id) k s) ≡ s
  unfolding text_of discount_of status_kept
  status_back zero k s agree kept = sym (agree.null refl).1
  status_back (suc p) k s agree kept = kept

  -- and those that a discount is kept as agree
  pub codes_agree : (id k s : ℕ) → IfSome (discount_of (text_of names id) k s) (IsDiscountOf c) → kind_kept (discount_of (text_of names id) k s) ≡ k → status_kept (discount_of (text_of names id) k s) ≡ s
      → AreDiscountCodes c id k s
  unfolding text_of discount_of kind_kept status_kept
  codes_agree zero k s rules kind status = record { null = λ e. (sym kind, sym status); kind = λ some. absurd (some refl); status = λ some. absurd (some refl) }
  codes_agree (suc p) k s rules kind status = record { null = λ e. absurd cc; kind = λ some. kind_some k kind; status = λ some usage. status_some s (rules.status usage) }

-- ---- lists up to a place

pub all_more : {X : Type 0} (P : X → Type 0) (xs : List X) (i : ℕ) (d : X) → All P (take i xs) → i < length xs → P (get_or xs i d) → All P (take (i + 1) xs)
all_more P xs i d all lt p = rw (take_more xs i d lt) (All-push P (take i xs) (get_or xs i d) all p)

pub all_taken : {X : Type 0} (P : X → Type 0) (xs : List X) (i : ℕ) → All P (take i xs) → length xs ≤ i → All P xs
all_taken P xs i all le = subst (All P) (take_all i xs le) all

-- ---- names that are seen in their order

there : (xs : List Text) (k : ℕ) → k < length xs → IsKnown xs (get_or xs k [])
unfolding place_of
there [] k lt = absurd (omega arith)
there (x ∷ xs) zero lt = record { below = rw ((bytes_decides x x).1 refl) (omega arith) }
there (x ∷ xs) (suc k) lt = by (bytes_eq (get_or xs k []) x) refl (there xs k (omega arith)).below
  where
    by : (b : Bool) → bytes_eq (get_or xs k []) x ≡ b → place_of xs (get_or xs k []) < length xs → IsKnown (x ∷ xs) (get_or xs k [])
    by true e lt = record { below = rw e (omega arith) }
    by false e lt = record { below = rw e (omega (arith, lt)) }

module _ (names : List Text) (seen : ℕ) where
  pub seen_none : seen ≤ length names → HaveSeen names seen seen []
  unfolding with_texts
  seen_none few = record { seen = refl; few = few }

  pub seen_again : (place : ℕ) → seen ≤ length names → place < seen → HaveSeen names seen seen (text_at names place ∷ [])
  unfolding with_texts text_at
  seen_again place few lt =
      let front = take seen names in
      let size : length front ≡ seen = length-take-le seen names few in
      let known : IsKnown front (get_or names place []) = subst (IsKnown front) (get_or-take seen names place [] lt) (there front place (omega (arith, size, lt))) in
      record { seen = sym (known_adds_nothing front (get_or names place []) known); few = few }

  pub seen_new : AreDistinct names → seen < length names → HaveSeen names seen (seen + 1) (text_at names seen ∷ [])
  unfolding with_texts with_text text_at
  seen_new distinct lt =
      let missing : list_any (bytes_eq (get_or names seen [])) (take seen names) ≡ false = is_new names seen seen distinct (omega arith) lt in
      record { seen = rw missing (take_more names seen [] lt); few = omega (arith, lt) }

  -- a text behind the next one comes too early
  pub seen_early : (place : ℕ) → AreDistinct names → seen < place → place < length names → AreOutOfTurn names seen (text_at names place ∷ [])
  unfolding with_texts with_text text_at place_of
  seen_early place distinct early lt = record {
    others =
        λ more made.
        let t = get_or names place [] in
        let front = take seen names in
        let size : length front ≡ seen = length-take-le seen names (omega (arith, early, lt)) in
        let new : list_any (bytes_eq t) front ≡ false = is_new names seen place distinct (omega (arith, early)) lt in
        let grown = with_texts-grows (front ++ t ∷ []) more in
        let pushed : with_text front t ≡ front ++ t ∷ [] = rw new refl in
        let is : names ≡ (front ++ t ∷ []) ++ grown.0 = made ∙ (ap (λ ns. with_texts ns more) pushed ∙ grown.1) in
        let last : position_or_len (bytes_eq t) (front ++ t ∷ []) ≡ length front = at_its_end front t new in
        let long : length (front ++ t ∷ []) ≡ length front + 1 = length-append front (t ∷ []) in
        let kept : position_or_len (bytes_eq t) ((front ++ t ∷ []) ++ grown.0) ≡ position_or_len (bytes_eq t) (front ++ t ∷ []) = place-kept (bytes_eq t) (front ++ t ∷ []) grown.0 (omega (arith, last, long)) in
        let whole : position_or_len (bytes_eq t) names ≡ position_or_len (bytes_eq t) ((front ++ t ∷ []) ++ grown.0) = ap (position_or_len (bytes_eq t)) is in
        let here : position_or_len (bytes_eq t) names ≡ place = place_at names place [] distinct lt in
        absurd (omega (arith, size, last, kept, whole, here, early));
  }

  pub out_more : (xs ys : List Text) → AreOutOfTurn names seen xs → AreOutOfTurn names seen (xs ++ ys)
  out_more xs ys out = record { others = λ more made. out.others (ys ++ more) (made ∙ ap (with_texts (take seen names)) (append_assoc xs ys more)) }

pub out_behind : (names : List Text) (a b : ℕ) (xs ys : List Text) → HaveSeen names a b xs → AreOutOfTurn names b ys → AreOutOfTurn names a (xs ++ ys)
out_behind names a b xs ys one out = record {
  others =
      λ more made.
      out.others more
      (made
      ∙ (ap (with_texts (take a names)) (append_assoc xs ys more)
      ∙ (with_texts-append (take a names) xs (ys ++ more) ∙ ap (λ ns. with_texts ns (ys ++ more)) (sym one.seen))));
}

pub seen_then : (names : List Text) (a b c : ℕ) (xs ys : List Text) → HaveSeen names a b xs → HaveSeen names b c ys → HaveSeen names a c (xs ++ ys)
seen_then names a b c xs ys one two =
    record { seen = two.seen ∙ (ap (λ ns. with_texts ns ys) one.seen ∙ sym (with_texts-append (take a names) xs ys)); few = two.few }

pub null_texts : (names : List Text) (code : ℕ) → (1 ≤ code → ⊥) → option_to_list (text_of names code) ≡ []
unfolding text_of
null_texts names zero h = refl
null_texts names (suc p) h = absurd (h (omega arith))

pub code_texts : (names : List Text) (code place : ℕ) → 1 ≤ code → place ≡ code - 1 → text_at names place ∷ [] ≡ option_to_list (text_of names code)
unfolding text_of
code_texts names zero place le is = absurd (omega arith)
code_texts names (suc p) place le is = let same : place ≡ p = omega (arith, is) in ap (λ k. text_at names k ∷ []) same

-- the texts of a row in turn, the last of which a test answers
pub seen_in_turn : (names : List Text) (a b c d e : ℕ) (id unit sku account tags : List Text) → HaveSeen names a b id → HaveSeen names b c unit → HaveSeen names c d sku → HaveSeen names d e account
    → (r : Option ℕ) → IfSome r (λ now. HaveSeen names e now tags) → IfSome r (λ now. HaveSeen names a now (id ++ (unit ++ (sku ++ (account ++ tags)))))
seen_in_turn names a b c d e id unit sku account tags one two three four None h = tt
seen_in_turn names a b c d e id unit sku account tags one two three four (Some now) h =
    seen_then names a b now id _ one (seen_then names b c now unit _ two (seen_then names c d now sku _ three (seen_then names d e now account tags four h)))

-- and those of a row the last of which are out of turn
pub out_in_turn : (names : List Text) (a b c d e : ℕ) (id unit sku account tags : List Text) → HaveSeen names a b id → HaveSeen names b c unit → HaveSeen names c d sku → HaveSeen names d e account
    → (r : Option ℕ) → IfNone r (AreOutOfTurn names e tags) → IfNone r (AreOutOfTurn names a (id ++ (unit ++ (sku ++ (account ++ tags)))))
out_in_turn names a b c d e id unit sku account tags one two three four (Some now) h = tt
out_in_turn names a b c d e id unit sku account tags one two three four None h =
    out_behind names a b id _ one (out_behind names b c unit _ two (out_behind names c d sku _ three (out_behind names d e account tags four h)))

pub one_more_place : (P : ℕ → Type 0) (n : ℕ) → ((i : ℕ) → i < n → P i) → P n → (i : ℕ) → i < n + 1 → P i
one_more_place P n before here i lt = by (ltb i n) refl
  where
    by : (b : Bool) → ltb i n ≡ b → P i
    by true e = before i (ltb-true i n e)
    by false e = let le : n ≤ i = ltb-false i n e in let same : n ≡ i = omega (arith, le, lt) in subst P same here

-- texts that were seen already
pub seen_already : (names : List Text) (seen : ℕ) → seen ≤ length names → (places : List ℕ) → All (λ place. place < seen) places → HaveSeen names seen seen (map (text_at names) places)
seen_already names seen few [] within = seen_none names seen few
seen_already names seen few (place ∷ places) within =
    let Within : ℕ → Type 0 = λ k. k < seen in
    let here = seen_again names seen place few (All-head Within place places within) in
    seen_then names seen seen seen (text_at names place ∷ []) (map (text_at names) places) here (seen_already names seen few places (All-tail Within place places within))

-- lists whose texts are among the first names, once more names are seen, and once one more list is
pub lists_stay : (lists : List (List ℕ)) (count seen now : ℕ) → seen ≤ now → AreListsSeen lists count seen → AreListsSeen lists count now
lists_stay lists count seen now le are = record {
  few = are.few;
  each = λ k lt. All-weaker (λ place. place < seen) (λ place. place < now) (λ place below. omega (arith, below, le)) (get_or lists k []) (are.each k lt);
}

pub no_lists : (lists : List (List ℕ)) (seen : ℕ) → AreListsSeen lists 0 seen
no_lists lists seen = record { few = omega arith; each = λ k lt. absurd (omega (arith, lt)) }

pub fewer_lists : (lists : List (List ℕ)) (count fewer seen : ℕ) → fewer ≤ count → AreListsSeen lists count seen → AreListsSeen lists fewer seen
fewer_lists lists count fewer seen le are = record { few = omega (arith, le, are.few); each = λ k lt. are.each k (omega (arith, lt, le)) }

pub one_more_list : (lists : List (List ℕ)) (count seen : ℕ) → AreListsSeen lists count seen → count < length lists → All (λ place. place < seen) (get_or lists count []) → AreListsSeen lists (count + 1) seen
one_more_list lists count seen are lt here =
    record { few = omega (arith, lt); each = one_more_place (λ k. All (λ place. place < seen) (get_or lists k [])) count are.each here }

pub lists_after : (lists : List (List ℕ)) (count now code more : ℕ) → AreListsSeen lists count now → code < length lists → All (λ place. place < now) (get_or lists code []) → more ≤ count + 1 → (code ≢ count → more ≤ count)
    → AreListsSeen lists more now
lists_after lists count now code more are lt here few same = by (eqb_tells code count)
  where
    by : ((eqb code count ≡ true) × (code ≡ count)) ⊎ ((eqb code count ≡ false) × (code ≢ count)) → AreListsSeen lists more now
    by (inl e) =
        let here_is : All (λ place. place < now) (get_or lists count []) = subst (λ k. All (λ place. place < now) (get_or lists k [])) e.1 here in
        fewer_lists lists (count + 1) more now few (one_more_list lists count now are (omega (arith, lt, e.1)) here_is)
    by (inr e) = fewer_lists lists count more now (same e.1) are

-- ---- tags

tags_sized : (names : List Text) → All (λ t. length t ≤ longest_tag_text) names → (list : List ℕ) → All (λ place. place < length names) list → All IsTagSized (tags_of names list)
unfolding tags_of tag_of text_at
tags_sized names sized [] within = All-nil IsTagSized
tags_sized names sized (key ∷ []) within = All-nil IsTagSized
tags_sized names sized (key ∷ value ∷ places) within =
    let Within : ℕ → Type 0 = λ place. place < length names in
    let behind = All-tail Within key (value ∷ places) within in
    All-cons IsTagSized (tag_of names key value) (tags_of names places)
    (record { key = sized key [] (All-head Within key (value ∷ places) within); value = sized value [] (All-head Within value places behind) })
    (tags_sized names sized places (All-tail Within value places behind))

-- a list of places stands for tags where their keys rise
pub are_tags : (names : List Text) → All (λ t. length t ≤ longest_tag_text) names → (list : List ℕ) → ArePlacesOfTags names list → rise (map (λ t. t.key) (tags_of names list)) ≡ true → IsTagList names list
are_tags names sized list are rising =
    let few : length list / 2 ≤ most_tags = are.few in
    record {
      rising = sorted_from_rise (map (λ t. t.key) (tags_of names list)) rising;
      few = omega (arith, few, tags_counted names list);
      sized = tags_sized names sized list are.within;
    }

-- ---- rows up to a place

pub texts_more : (f : ℕ → List Text) (n : ℕ) → flat_map f (range_with_len 0 (n + 1)) ≡ flat_map f (range_with_len 0 n) ++ f n
texts_more f n =
    let all = λ (ts : List Text). ts in
    let last : flat_map all (f n ∷ []) ≡ f n = append-nil (f n) in
    sym (flat_map-map all f (range_with_len 0 (n + 1)))
    ∙ (ap (flat_map all) (map-range_with_len_more f 0 n n (omega arith))
    ∙ (flat_map-append all (map f (range_with_len 0 n)) (f n ∷ [])
    ∙ (λ j. flat_map-map all f (range_with_len 0 n) j ++ last j)))

-- the texts before a place, those at it, and those behind it
pub texts_around : (f : ℕ → List Text) (i n : ℕ) → i < n → (more : List Text) × (flat_map f (range_with_len 0 n) ≡ flat_map f (range_with_len 0 i) ++ (f i ++ more))
texts_around f i zero lt = absurd (omega arith)
texts_around f i (suc n) lt = by (ltb i n) refl (texts_around f i n)
  where
    last : flat_map f (range_with_len 0 (suc n)) ≡ flat_map f (range_with_len 0 n) ++ f n
    last = let next : suc n ≡ n + 1 = omega arith in ap (λ k. flat_map f (range_with_len 0 k)) next ∙ texts_more f n

    by : (b : Bool) → ltb i n ≡ b → (i < n → (more : List Text) × (flat_map f (range_with_len 0 n) ≡ flat_map f (range_with_len 0 i) ++ (f i ++ more)))
        → (more : List Text) × (flat_map f (range_with_len 0 (suc n)) ≡ flat_map f (range_with_len 0 i) ++ (f i ++ more))
    by true e around =
        let before = around (ltb-true i n e) in
        let front = flat_map f (range_with_len 0 i) in (
          before.0 ++ f n,
          last ∙ (ap (λ ts. ts ++ f n) before.1 ∙ (append_assoc front (f i ++ before.0) (f n) ∙ ap (λ ts. front ++ ts) (append_assoc (f i) before.0 (f n)))),
        )
    by false e around =
        let le : n ≤ i = ltb-false i n e in
        let same : n ≡ i = omega (arith, le, lt) in
        ([], last ∙ ((λ j. flat_map f (range_with_len 0 (same j)) ++ f (same j)) ∙ ap (λ ts. flat_map f (range_with_len 0 i) ++ ts) (sym (append-nil (f i)))))

-- ---- lists that are numbered

lists_back : (lists xs : List (List ℕ)) → AreKnown lists xs → lists_there lists (map (place_of lists) xs) ≡ xs
lists_back lists [] h = refl
lists_back lists (x ∷ xs) h = rw (text_at_place lists x [] h.0.below, lists_back lists xs h.1) refl

pub numbered_there : (lists : List (List ℕ)) (codes : List ℕ) (xs : List (List ℕ)) → AreNumbered lists codes xs → lists_there lists codes ≡ xs
numbered_there lists codes xs h =
    let known : AreKnown lists xs = rw h.seen (AreKnown-seen [] xs) in
    ap (lists_there lists) h.places ∙ lists_back lists xs known

pub numbered_more : (lists now : List (List ℕ)) (codes more : List ℕ) (xs : List (List ℕ)) (list : List ℕ) → AreNumbered lists codes xs → now ≡ with_text lists list → more ≡ codes ++ place_of now list ∷ []
    → AreNumbered now more (xs ++ list ∷ [])
numbered_more lists now codes more xs list h is pushed =
    let listed = listed_more [] lists codes xs (record { seen = h.seen; places = h.places }) now list (place_of now list) more is refl pushed in
    record { seen = listed.seen; places = listed.places }

-- texts that are seen in turn stay distinct
pub distinct_seen : (names ts : List Text) → AreDistinct names → AreDistinct (with_texts names ts)
unfolding with_texts
distinct_seen names [] h = h
distinct_seen names (t ∷ ts) h = distinct_seen (with_text names t) ts (stays_distinct names t h)

-- the list of a code, for one more row
pub numbered_again : (lists : List (List ℕ)) (codes more : List ℕ) (xs : List (List ℕ)) (code : ℕ) → AreNumbered lists codes xs → code < length lists → more ≡ codes ++ code ∷ []
    → AreNumbered lists more (xs ++ get_or lists code [] ∷ [])
unfolding IsDistinct
numbered_again lists codes more xs code h lt pushed =
    let list = get_or lists code [] in
    let distinct : AreDistinct lists = subst AreDistinct (sym h.seen) (distinct_seen [] xs tt) in
    let is : lists ≡ with_text lists list = sym (known_adds_nothing lists list (there lists code lt)) in
    numbered_more lists lists codes more xs list h is (pushed ∙ ap (λ k. codes ++ k ∷ []) (sym (place_at lists code [] distinct lt)))
