-- Texts of tags, and rows that have the tags that they state.
use Rattle.std.proofs.Common.{◌≡◌, ◌≢◌, ℕ, ◌+◌, ◌<◌, ◌≤◌, Bool, true, false, List, [], ◌∷◌, ◌++◌, length, get_or, replicate, set, refl, sym, ap, ◌∙◌, subst, arith, length-append, below_more, ⊎_elim}
use Rattle.std.proofs.lemmas.Bool.{cases_eq}
use Rattle.std.specs.Prelude.{Some, Result, Ok, Err, OnOk}
use Rattle.std.specs.List.{list_any}
use Rattle.std.specs.Str.{bytes_eq}
use Rattle.std.proofs.lemmas.List.{get_or_append_left, get_or-append-add, get_or-replicate, get_or-set_same, get_or-set_other, length-replicate, length-set}
use Rattle.std.proofs.lemmas.Option.{slice_get-get_or}
use Rattle.fw_charge.specs.Charge.{Charge}
use Rattle.fw_charge.specs.Tags.{TagText, IsTags}
use Rattle.fw_row_table.specs.Names.{Text, place_of, with_text}
use Rattle.fw_columns.specs.Rows.{tags_at}
use Rattle.fw_row_table.proofs.NameFacts.{at_its_end, place-there, text_at_place}
use Rattle.fw_rows.specs.Judged.{JudgedWithin}
use Rattle.fw_rows.specs.Rules.{Rule, tags_stated}
use Rattle.fw_rows.specs.declared.fault.Refusal.{Refusal}
use Rattle.fw_column_rows.specs.Filling.{AreTagsOf, HasTagsOf}

-- ---- a text that is looked up

-- it is known where its code was there before
pub code_known : (names : List Text) (t : Text) (code : ℕ) → code ≡ place_of (with_text names t) t → code < length names → (with_text names t ≡ names) × (get_or names code [] ≡ t)
unfolding with_text place_of
code_known names t code is lt = by (list_any (bytes_eq t) names) refl
  where
    by : (b : Bool) → list_any (bytes_eq t) names ≡ b → (with_text names t ≡ names) × (get_or names code [] ≡ t)
    by true e =
        let same : with_text names t ≡ names = rw e refl in
        let here : code ≡ place_of names t = is ∙ ap (λ ns. place_of ns t) same in
        let below : place_of names t < length names = omega (arith, here, lt) in
        (same, ap (λ k. get_or names k []) here ∙ text_at_place names t [] below)
    by false e =
        let grown : with_text names t ≡ names ++ t ∷ [] = rw e refl in
        let here : code ≡ length names = is ∙ (ap (λ ns. place_of ns t) grown ∙ at_its_end names t e) in
        absurd (omega (arith, here, lt))

-- and new where it was not
pub code_new : (names : List Text) (t : Text) (code : ℕ) → code ≡ place_of (with_text names t) t → length names ≤ code → (with_text names t ≡ names ++ t ∷ []) × (code ≡ length names)
unfolding with_text place_of
code_new names t code is le = by (list_any (bytes_eq t) names) refl
  where
    by : (b : Bool) → list_any (bytes_eq t) names ≡ b → (with_text names t ≡ names ++ t ∷ []) × (code ≡ length names)
    by true e =
        let same : with_text names t ≡ names = rw e refl in
        let here : code ≡ place_of names t = is ∙ ap (λ ns. place_of ns t) same in
        let below : place_of names t < length names = place-there (bytes_eq t) names e in
        absurd (omega (arith, here, le, below))
    by false e =
        let grown : with_text names t ≡ names ++ t ∷ [] = rw e refl in
        (grown, is ∙ (ap (λ ns. place_of ns t) grown ∙ at_its_end names t e))

-- a text is at its code
pub text_at_code : (names : List Text) (t : Text) (code : ℕ) → code ≡ place_of names t → code < length names → get_or names code [] ≡ t
text_at_code names t code is lt = ap (λ k. get_or names k []) is ∙ text_at_place names t [] (omega (arith, is, lt))

-- ---- what was judged

-- where no rule is broken, what follows from what was made
pub judged_ok : {A Q : Type 0} (rules : List Rule) (Made : A → Type 0) (r : Result A Refusal) → JudgedWithin rules Made r → ((x : A) → Made x → Q) → OnOk r Q
judged_ok rules Made (Ok x) judged so = so x judged.1
judged_ok rules Made (Err e) judged so = tt

-- and from what is said beside it
pub judged_beside : {A P Q : Type 0} (rules : List Rule) (Made : A → Type 0) (r : Result A Refusal) → JudgedWithin rules Made r → OnOk r P → ((x : A) → Made x → P → Q) → OnOk r Q
judged_beside rules Made (Ok x) judged beside so = so x judged.1 beside
judged_beside rules Made (Err e) judged beside so = tt

-- ---- one row more

tags_before : (rows : List Charge) (x d : Charge) (i : ℕ) → i < length rows → tags_at (rows ++ x ∷ []) i ≡ tags_at rows i
tags_before rows x d i lt =
    let more : i < length (rows ++ x ∷ []) = omega (arith, lt, length-append rows (x ∷ [])) in
    rw (slice_get-get_or (rows ++ x ∷ []) i x more, slice_get-get_or rows i x lt, get_or_append_left rows (x ∷ []) x i lt) refl

tags_last : (rows : List Charge) (x : Charge) → tags_at (rows ++ x ∷ []) (length rows) ≡ x.tags
tags_last rows x =
    let more : length rows < length (rows ++ x ∷ []) = omega (arith, length-append rows (x ∷ [])) in
    let none : length rows + 0 ≡ length rows = omega arith in
    let last : get_or (rows ++ x ∷ []) (length rows) x ≡ x = sym (ap (λ k. get_or (rows ++ x ∷ []) k x) none) ∙ get_or-append-add rows (x ∷ []) 0 x in
    rw (slice_get-get_or (rows ++ x ∷ []) (length rows) x more, last) refl

has_before : (text : Text) (place : ℕ) (rows : List Charge) (x : Charge) → HasTagsOf text place rows → HasTagsOf text place (rows ++ x ∷ [])
has_before text place rows x has =
    let same : tags_at (rows ++ x ∷ []) place ≡ tags_at rows place = tags_before rows x x place has.within in
    record {
      within = omega (arith, has.within, length-append rows (x ∷ []));
      stated = has.stated ∙ ap (λ tags. Some tags) (sym same);
      kept = subst IsTags (sym same) has.kept;
    }

-- the text of a row that was added
pub last_text : (t : Text) (tags : List TagText) (rows now : List Charge) (x : Charge) → now ≡ rows ++ x ∷ [] → x.tags ≡ tags → tags_stated t ≡ Some tags → IsTags tags → HasTagsOf t (length rows) now
last_text t tags rows now x added has is kept =
    let last : tags_at (rows ++ x ∷ []) (length rows) ≡ tags = tags_last rows x ∙ has in
    rw added (record {
      within = omega (arith, length-append rows (x ∷ []));
      stated = is ∙ ap (λ tags. Some tags) (sym last);
      kept = subst IsTags (sym last) kept;
    })

-- ---- the texts and their rows

-- no row has a text yet
pub none_yet : (names : List Text) → AreTagsOf names (replicate (length names) 0) []
none_yet names = record {
  one_each = length-replicate {A = ℕ} (length names) 0;
  each = λ k place lt is.
      let none : get_or (replicate (length names) 0) k 0 ≡ 0 = get_or-replicate {A = ℕ} (length names) k 0 0 (omega (arith, lt, length-replicate {A = ℕ} (length names) 0)) in
      absurd (omega (arith, none, is));
}

-- a text that no row has
pub one_text_more : (names : List Text) (places : List ℕ) (rows : List Charge) (t : Text) → AreTagsOf names places rows → AreTagsOf (names ++ t ∷ []) (places ++ 0 ∷ []) rows
one_text_more names places rows t are =
    let size : length (places ++ 0 ∷ []) ≡ length places + 1 = length-append places (0 ∷ []) in
    record {
      one_each = omega (arith, size, length-append names (t ∷ []), are.one_each);
      each = λ k place lt. below_more HasAt (length places) before last k (omega (arith, lt, size)) place;
    }
  where
    HasAt : ℕ → Type 0
    HasAt k = (place : ℕ) → get_or (places ++ 0 ∷ []) k 0 ≡ place + 1 → HasTagsOf (get_or (names ++ t ∷ []) k []) place rows

    before : (k : ℕ) → k < length places → HasAt k
    before k lt place is =
        let within : k < length names = omega (arith, lt, are.one_each) in
        let same : get_or (places ++ 0 ∷ []) k 0 ≡ get_or places k 0 = get_or_append_left places (0 ∷ []) 0 k lt in
        rw (get_or_append_left names (t ∷ []) [] k within) (are.each k place lt (sym same ∙ is))

    last : HasAt (length places)
    last place is =
        let same : length places ≡ length places + 0 = omega arith in
        let none : get_or (places ++ 0 ∷ []) (length places) 0 ≡ 0 = ap (λ k. get_or (places ++ 0 ∷ []) k 0) same ∙ get_or-append-add places (0 ∷ []) 0 0 in
        absurd (omega (arith, none, is))

-- a row whose text another row has
pub tags_kept : (names : List Text) (places : List ℕ) (rows : List Charge) (x : Charge) → AreTagsOf names places rows → AreTagsOf names places (rows ++ x ∷ [])
tags_kept names places rows x are = record {
  one_each = are.one_each;
  each = λ k place lt is. has_before (get_or names k []) place rows x (are.each k place lt is);
}

-- the first row with a text
pub tags_set : (names : List Text) (places : List ℕ) (rows : List Charge) (code : ℕ) (x : Charge) → code < length places → AreTagsOf names places rows
    → HasTagsOf (get_or names code []) (length rows) (rows ++ x ∷ []) → AreTagsOf names (set places code (length rows + 1)) (rows ++ x ∷ [])
tags_set names places rows code x within are has = record {
  one_each = length-set places code (length rows + 1) ∙ are.one_each;
  each = λ k place lt is. ⊎_elim
      (λ (same : k ≡ code).
      let here : get_or (set places code (length rows + 1)) k 0 ≡ length rows + 1 = rw same (get_or-set_same places code (length rows + 1) 0 within) in
      let at : length rows ≡ place = omega (arith, here, is) in
      rw same (subst (λ p. HasTagsOf (get_or names code []) p (rows ++ x ∷ [])) at has))
      (λ (other : k ≢ code).
      let there : get_or (set places code (length rows + 1)) k 0 ≡ get_or places k 0 = get_or-set_other places code k (length rows + 1) 0 other in
      let below : k < length places = omega (arith, lt, length-set places code (length rows + 1)) in
      has_before (get_or names k []) place rows x (are.each k place below (sym there ∙ is)))
      (cases_eq k code);
}
