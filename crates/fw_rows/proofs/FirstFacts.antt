-- The first rows that have the tags of texts that are known.
use Rattle.std.proofs.Common.{◌≡◌, ◌≢◌, ◌∙◌, ◌+◌, ◌<◌, ◌≤◌, ◌⊎◌, ℕ, zero, suc, Option, Some, None, List, [], ◌∷◌, ◌++◌, length, get_or, replicate, set, refl, sym, ap, subst, arith, length-append, unwrap_or, ⊎_elim}
use Rattle.std.proofs.lemmas.Bool.{cases_eq, cases_order}
use Rattle.std.proofs.lemmas.List.{get_or_append_left, get_or-append-add, get_or-set_same, get_or-set_other, get_or_past}
use Rattle.std.proofs.lemmas.Option.{slice_get-get_or}
use Rattle.fw_charge.specs.Charge.{Charge}
use Rattle.fw_charge.specs.Tags.{IsTags}
use Rattle.fw_rows.specs.Keeping.{AreFirsts, HasKept, KeptAs}
use Rattle.fw_rows.specs.Keeps.{KeepText}
use Rattle.fw_rows.specs.Sinks.{row_tags}

abbrev Texts : Type 0
Texts = List ℕ × List (List ℕ)

-- ---- one row more

tags_before : (rows : List Charge) (x : Charge) (i : ℕ) → i < length rows → row_tags (rows ++ x ∷ []) i ≡ row_tags rows i
tags_before rows x i lt =
    let more : i < length (rows ++ x ∷ []) = omega (arith, lt, length-append rows (x ∷ [])) in
    rw (slice_get-get_or (rows ++ x ∷ []) i x more, slice_get-get_or rows i x lt, get_or_append_left rows (x ∷ []) x i lt) refl

tags_last : (rows : List Charge) (x : Charge) → row_tags (rows ++ x ∷ []) (length rows) ≡ x.tags
tags_last rows x =
    let more : length rows < length (rows ++ x ∷ []) = omega (arith, length-append rows (x ∷ [])) in
    let none : length rows + 0 ≡ length rows = omega arith in
    let last : get_or (rows ++ x ∷ []) (length rows) x ≡ x = sym (ap (λ k. get_or (rows ++ x ∷ []) k x) none) ∙ get_or-append-add rows (x ∷ []) 0 x in
    rw (slice_get-get_or (rows ++ x ∷ []) (length rows) x more, last) refl

-- the last row has the tags of texts
pub last_has : (keeps : List KeepText) (texts : Texts) (rows now : List Charge) (x : Charge) → now ≡ rows ++ x ∷ [] → KeptAs keeps texts.0 texts.1 x.tags → IsTags x.tags → HasKept keeps texts (length rows) now
last_has keeps texts rows now x added has valid =
    let last : row_tags (rows ++ x ∷ []) (length rows) ≡ x.tags = tags_last rows x in
    rw added (record {
      within = omega (arith, length-append rows (x ∷ []));
      tags = subst (λ ts. KeptAs keeps texts.0 texts.1 ts) (sym last) has;
      valid = subst IsTags (sym last) valid;
    })

-- the rows before it have theirs
has_before : (keeps : List KeepText) (texts : Texts) (place : ℕ) (rows : List Charge) (x : Charge) → HasKept keeps texts place rows → HasKept keeps texts place (rows ++ x ∷ [])
has_before keeps texts place rows x has =
    let same : row_tags (rows ++ x ∷ []) place ≡ row_tags rows place = tags_before rows x place has.within in
    record {
      within = omega (arith, has.within, length-append rows (x ∷ []));
      tags = subst (λ ts. KeptAs keeps texts.0 texts.1 ts) (sym same) has.tags;
      valid = subst IsTags (sym same) has.valid;
    }

pub row_more : (keeps : List KeepText) (known : List Texts) (firsts : List (Option ℕ)) (rows now : List Charge) (x : Charge) → now ≡ rows ++ x ∷ [] → AreFirsts keeps known firsts rows → AreFirsts keeps known firsts now
row_more keeps known firsts rows now x added are = λ k place is.
    let has = are k place is in rw added (has.0, has_before keeps (get_or known k ([], [])) place rows x has.1)

-- ---- the texts

no_place : (n k : ℕ) → get_or (replicate {A = Option ℕ} n None) k None ≡ None
no_place zero k = refl
no_place (suc n) zero = refl
no_place (suc n) (suc k) = no_place n k

-- no row is named yet
pub none_yet : (keeps : List KeepText) (known : List Texts) (n : ℕ) (rows : List Charge) → AreFirsts keeps known (replicate n None) rows
none_yet keeps known n rows = λ k place is. let both = sym (no_place n k) ∙ is in absurd (cc)

-- a row is named for a text
pub first_set : (keeps : List KeepText) (known : List Texts) (firsts : List (Option ℕ)) (rows : List Charge) (at row : ℕ) → at < length known → at < length firsts → HasKept keeps (get_or known at ([], [])) row rows
    → AreFirsts keeps known firsts rows → AreFirsts keeps known (set firsts at (Some row)) rows
first_set keeps known firsts rows at row within there has are = λ k place is. ⊎_elim
    (λ (same : k ≡ at).
    let here : get_or (set firsts at (Some row)) k None ≡ Some row = rw same (get_or-set_same firsts at (Some row) None there) in
    let it : row ≡ place = ap (λ o. unwrap_or o row) (sym here ∙ is) in
    rw same (within, subst (λ p. HasKept keeps (get_or known at ([], [])) p rows) it has))
    (λ (other : k ≢ at). are k place (sym (get_or-set_other firsts at k (Some row) None other) ∙ is))
    (cases_eq k at)

-- a text more is known
pub text_more : (keeps : List KeepText) (known now : List Texts) (texts : Texts) (firsts : List (Option ℕ)) (rows : List Charge) → now ≡ known ++ texts ∷ [] → AreFirsts keeps known firsts rows → AreFirsts keeps now firsts rows
text_more keeps known now texts firsts rows more are = λ k place is.
    let has = are k place is in
    rw (more, get_or_append_left known (texts ∷ []) ([], []) k has.0) (omega (arith, has.0, length-append known (texts ∷ [])), has.1)

-- and a row is named for it
pub first_pushed : (keeps : List KeepText) (known now : List Texts) (texts : Texts) (firsts : List (Option ℕ)) (rows : List Charge) (row : ℕ) → length known ≡ length firsts → now ≡ known ++ texts ∷ []
    → HasKept keeps texts row rows → AreFirsts keeps known firsts rows → AreFirsts keeps now (firsts ++ Some row ∷ []) rows
first_pushed keeps known now texts firsts rows row as_many more has are = λ k place is. ⊎_elim
    (λ (same : k ≡ length firsts).
    let at : k ≡ length firsts + 0 = omega (arith, same) in
    let here : get_or (firsts ++ Some row ∷ []) k None ≡ Some row = rw at (get_or-append-add firsts (Some row ∷ []) 0 None) in
    let it : row ≡ place = ap (λ o. unwrap_or o row) (sym here ∙ is) in
    let last : k ≡ length known + 0 = omega (arith, same, as_many) in
    let text : get_or (known ++ texts ∷ []) k ([], []) ≡ texts = rw last (get_or-append-add known (texts ∷ []) 0 ([], [])) in
    rw (more, text) (omega (arith, same, as_many, length-append known (texts ∷ [])), subst (λ p. HasKept keeps texts p rows) it has))
    (λ (others : (k < length firsts) ⊎ (length firsts < k)). ⊎_elim
    (λ (before : k < length firsts).
    text_more keeps known now texts firsts rows more are k place (sym (get_or_append_left firsts (Some row ∷ []) None k before) ∙ is))
    (λ (behind : length firsts < k).
    let past : length (firsts ++ Some row ∷ []) ≤ k = omega (arith, behind, length-append firsts (Some row ∷ [])) in
    let both = sym (get_or_past (firsts ++ Some row ∷ []) k None past) ∙ is in absurd (cc))
    others)
    (cases_order k (length firsts))
