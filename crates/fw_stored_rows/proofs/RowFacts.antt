-- Rows that agree in all their fields, and rows that are compared one by one.
use Rattle.std.proofs.Common.{◌≡◌, ◌∙◌, ◌↔◌, ◌+◌, ◌-◌, ◌≤◌, ◌<◌, ◌++◌, ◌∷◌, [], ℕ, zero, suc, List, Bool, true, false, IsTrue, length, take, drop, refl, sym, ap, arith}
use Rattle.std.specs.Prelude.{Some, None, slice_get}
use Rattle.std.proofs.Math.Seq.{drop-nil, take-add}
use Rattle.std.proofs.lemmas.List.{drop-take, length-drop, length-take, take-append-drop, take-append-le, take_all}
use Rattle.std.proofs.lemmas.Option.{same_Some}
use Rattle.fw_charge.specs.Charge.{Charge}
use Rattle.fw_stored_rows.specs.Comparing.{AgreeBesideTags, AgreeInNumbers, AgreeInTexts}

-- rows that agree in all fields are one
pub same_row : (one other : Charge) → AgreeBesideTags one other → one.tags ≡ other.tags → one ≡ other
same_row one other beside tags = λ j. record {
  billed = beside.numbers.billed j;
  effective = beside.numbers.effective j;
  category = beside.numbers.category j;
  is_correction = beside.numbers.is_correction j;
  start = beside.numbers.start j;
  end = beside.numbers.end j;
  discount = beside.discount j;
  quantity = beside.numbers.quantity j;
  unit = beside.texts.unit j;
  sku = beside.texts.sku j;
  sub_account = beside.texts.sub_account j;
  tags = tags j;
}

pub same_numbers : (one other : Charge) → one ≡ other → AgreeInNumbers one other
same_numbers one other same = record {
  start = ap (λ (c : Charge). c.start) same;
  billed = ap (λ (c : Charge). c.billed) same;
  end = ap (λ (c : Charge). c.end) same;
  effective = ap (λ (c : Charge). c.effective) same;
  category = ap (λ (c : Charge). c.category) same;
  is_correction = ap (λ (c : Charge). c.is_correction) same;
  quantity = ap (λ (c : Charge). c.quantity) same;
}

pub same_texts : (one other : Charge) → one ≡ other → AgreeInTexts one other
same_texts one other same = record {
  unit = ap (λ (c : Charge). c.unit) same;
  sku = ap (λ (c : Charge). c.sku) same;
  sub_account = ap (λ (c : Charge). c.sub_account) same;
}

pub same_beside : (one other : Charge) → one ≡ other → AgreeBesideTags one other
same_beside one other same = record {
  numbers = same_numbers one other same;
  texts = same_texts one other same;
  discount = ap (λ (c : Charge). c.discount) same;
}

-- ---- one row after the other

taken_get : {A : Type 0} (n : ℕ) (xs : List A) (i : ℕ) → i < n → slice_get (take n xs) i ≡ slice_get xs i
taken_get zero xs i within = absurd (omega (arith, within))
taken_get (suc n) [] i within = refl
taken_get (suc n) (x ∷ xs) zero within = refl
taken_get (suc n) (x ∷ xs) (suc i) within = taken_get n xs i (omega (arith, within))

dropped_get : {A : Type 0} (n : ℕ) (xs : List A) (i k : ℕ) → n + i ≡ k → slice_get (drop n xs) i ≡ slice_get xs k
dropped_get zero xs i k at = ap (slice_get xs) (let e : i ≡ k = omega (arith, at) in e)
dropped_get (suc n) [] i k at = refl
dropped_get (suc n) (x ∷ xs) i zero at = absurd (omega (arith, at))
dropped_get (suc n) (x ∷ xs) i (suc k) at = dropped_get n xs i k (omega (arith, at))

next_same : {A : Type 0} (n : ℕ) (xs ys : List A) → take n xs ≡ take n ys → slice_get xs n ≡ slice_get ys n → take (suc n) xs ≡ take (suc n) ys
next_same zero [] [] before same = refl
next_same zero [] (y ∷ ys) before same = absurd (let wrong : None ≡ Some y = same in cc)
next_same zero (x ∷ xs) [] before same = absurd (let wrong : Some x ≡ None = same in cc)
next_same zero (x ∷ xs) (y ∷ ys) before same = λ j. same_Some x y same j ∷ []
next_same (suc n) [] [] before same = refl
next_same (suc n) [] (y ∷ ys) before same = absurd (let wrong : [] ≡ y ∷ take n ys = before in cc)
next_same (suc n) (x ∷ xs) [] before same = absurd (let wrong : x ∷ take n xs ≡ [] = before in cc)
next_same (suc n) (x ∷ xs) (y ∷ ys) before same =
    let both : x ∷ take n xs ≡ y ∷ take n ys = before in
    let first : x ≡ y = cc in
    let rest : take n xs ≡ take n ys = cc in
    let next = next_same n xs ys rest same in
    λ j. first j ∷ next j

-- one row more that is the same
pub one_more : (one other : List Charge) (first from place : ℕ) → slice_get one (first + place) ≡ slice_get other (from + place) → take place (drop first one) ≡ take place (drop from other)
    → take (place + 1) (drop first one) ≡ take (place + 1) (drop from other)
one_more one other first from place same before =
    let more : place + 1 ≡ suc place = omega arith in
    rw more (next_same place (drop first one) (drop from other) before (dropped_get first one place (first + place) refl ∙ same ∙ sym (dropped_get from other place (from + place) refl)))

-- runs that are the same have the same row at each place
pub same_at : (one other : List Charge) (first from place count : ℕ) → place < count → take count (drop first one) ≡ take count (drop from other) → slice_get one (first + place) ≡ slice_get other (from + place)
same_at one other first from place count below same =
    sym (taken_get count (drop first one) place below ∙ dropped_get first one place (first + place) refl)
    ∙ ap (λ rows. slice_get rows place) same
    ∙ taken_get count (drop from other) place below
    ∙ dropped_get from other place (from + place) refl

-- ---- one run after the other

drop_more : {A : Type 0} (n m k : ℕ) (xs : List A) → n + m ≡ k → drop m (drop n xs) ≡ drop k xs
drop_more zero m k xs at = ap (λ l. drop l xs) (let e : m ≡ k = omega (arith, at) in e)
drop_more (suc n) m zero xs at = absurd (omega (arith, at))
drop_more (suc n) m (suc k) [] at = drop-nil m
drop_more (suc n) m (suc k) (x ∷ xs) at = drop_more n m k xs (omega (arith, at))

-- one run more that is the same
pub run_more : (part all : List Charge) (first done run : ℕ) → take run (drop (first + done) all) ≡ take run (drop done part) → take done part ≡ take done (drop first all)
    → take (done + run) part ≡ take (done + run) (drop first all)
run_more part all first done run same before =
    let next : take run (drop done part) ≡ take run (drop done (drop first all)) = sym same ∙ ap (take run) (sym (drop_more first done (first + done) all refl)) in
    take-add done run part ∙ (λ j. before j ++ next j) ∙ sym (take-add done run (drop first all))

-- rows that are the rows from a place on are so in each run of them
pub same_run : (part all : List Charge) (first done run : ℕ) → done + run ≤ length part → take (length part) (drop first all) ≡ part → take run (drop (first + done) all) ≡ take run (drop done part)
same_run part all first done run within is =
    let rows = drop first all in
    let behind = drop (length part) rows in
    let whole : rows ≡ part ++ behind = sym (take-append-drop (length part) rows) ∙ ap (λ l. l ++ behind) is in
    ap (take run) (sym (drop_more first done (first + done) all refl))
    ∙ sym (drop-take done run rows)
    ∙ ap (λ l. drop done (take (done + run) l)) whole
    ∙ ap (drop done) (take-append-le (done + run) part behind within)
    ∙ drop-take done run part

-- all rows are the same
pub all_same : (part all : List Charge) (first place : ℕ) → length part ≤ place → place ≤ length part → take place part ≡ take place (drop first all)
    → take (length part) (drop first all) ≡ part
all_same part all first place past within same =
    let at : length part ≡ place = omega arith in
    ap (λ n. take n (drop first all)) at ∙ sym same ∙ take_all place part past

-- there are too few rows from the place on
pub too_few : (part all : List Charge) (first : ℕ) → length all - first < length part → take (length part) (drop first all) ≡ part → ⊥
too_few part all first few is =
    let long = length-drop first all in
    let most = length-take (length part) (drop first all) in
    let same = ap length is in
    omega arith

-- ---- lists that are compared item by item

-- lists that begin with one item are equal where what is behind it is
pub same_first : {A : Type 0} (one other rest others : List A) (a b : A) (r : Bool) → one ≡ a ∷ rest → other ≡ b ∷ others → a ≡ b → IsTrue r ↔ (rest ≡ others) → IsTrue r ↔ (one ≡ other)
same_first one other rest others a b r begins starts same rests = (
  λ holds. let tails : rest ≡ others = rests.0 holds in begins ∙ (λ j. same j ∷ tails j) ∙ sym starts,
  λ equal. rests.1 (let both : a ∷ rest ≡ b ∷ others = sym begins ∙ equal ∙ starts in cc),
)

-- lists that begin with different items aren't equal
pub other_first : {A : Type 0} (one other rest others : List A) (a b : A) (r : Bool) → one ≡ a ∷ rest → other ≡ b ∷ others → IsTrue r ↔ (a ≡ b) → r ≡ false → IsTrue r ↔ (one ≡ other)
other_first one other rest others a b r begins starts firsts no_ = (
  λ holds. absurd (let wrong : true ≡ false = sym holds ∙ no_ in cc),
  λ equal. firsts.1 (let both : a ∷ rest ≡ b ∷ others = sym begins ∙ equal ∙ starts in cc),
)

-- a list that has an item isn't one that has none
pub none_other : {A : Type 0} (one other rest : List A) (a : A) → one ≡ a ∷ rest → other ≡ [] → IsTrue false ↔ (one ≡ other)
none_other one other rest a begins none = (
  λ holds. absurd (let wrong : false ≡ true = holds in cc),
  λ equal. absurd (let both : a ∷ rest ≡ [] = sym begins ∙ equal ∙ none in cc),
)

pub none_one : {A : Type 0} (one other rest : List A) (a : A) → one ≡ [] → other ≡ a ∷ rest → IsTrue false ↔ (one ≡ other)
none_one one other rest a none begins = (
  λ holds. absurd (let wrong : false ≡ true = holds in cc),
  λ equal. absurd (let both : a ∷ rest ≡ [] = sym begins ∙ sym equal ∙ none in cc),
)
