-- The code of a row's group stands for the group.
use Rattle.std.proofs.Common.{◌≡◌, ◌∙◌, ℕ, zero, suc, ◌+◌, ◌-◌, ◌<◌, ◌≤◌, Bool, true, false, cond, not, ◌||◌, ◌⊎◌, inl, inr, if◌then◌else◌, List, [], ◌∷◌, ◌++◌, length, get_or, sym, ap, refl, subst, arith, ⊎_elim, true≢false, Some}
use Rattle.std.specs.Prelude.{option_map, option_to_list, slice_get}
use Rattle.std.specs.Cmp.Lexicographic.{bytes_decides}
use Rattle.std.specs.List.{AllByRecursion, flat_map, list_any, position_or_len}
use Rattle.std.specs.Str.{bytes_eq}
use Rattle.std.proofs.lemmas.List.{get_or_past}
use Rattle.std.proofs.lemmas.List.Folds.{list_any-append}
use Rattle.std.proofs.lemmas.Option.{get_or_from_slice_get}
use Rattle.fw_charge.specs.Charge.{Charge, DiscountText}
use Rattle.fw_charge.specs.Tags.{TagText, group_of, tag_under, value_under}
use Rattle.fw_columns.specs.Codes.{group_code, tag_code}
use Rattle.fw_row_table.specs.Names.{Text, place_of, with_text}
use Rattle.fw_row_table.specs.Texts.{names_of, texts_of, texts_of_tags, with_texts}
use Rattle.fw_sums.specs.CodeSums.{code_text}

-- whether a text is one of these
abbrev is_among : Text → List Text → Bool
is_among t ts = list_any (bytes_eq t) ts

or_true : (b : Bool) → (b || true) ≡ true
or_true true = refl
or_true false = refl

any_right : (t : Text) (xs ys : List Text) → is_among t ys ≡ true → is_among t (xs ++ ys) ≡ true
any_right t xs ys h = list_any-append (bytes_eq t) xs ys ∙ ap (λ b. is_among t xs || b) h ∙ or_true (is_among t xs)

any_left : (t : Text) (xs ys : List Text) → is_among t xs ≡ true → is_among t (xs ++ ys) ≡ true
any_left t xs ys h = list_any-append (bytes_eq t) xs ys ∙ ap (λ b. b || is_among t ys) h

-- ---- texts that were seen are names

name_kept : (names : List Text) (t u : Text) → is_among t names ≡ true → is_among t (with_text names u) ≡ true
unfolding with_text
name_kept names t u h = by (list_any (bytes_eq u) names)
  where
    by : (b : Bool) → is_among t (if b then names else names ++ u ∷ []) ≡ true
    by true = h
    by false = any_left t names (u ∷ []) h

name_seen : (names : List Text) (t : Text) → is_among t (with_text names t) ≡ true
unfolding with_text
name_seen names t = by (list_any (bytes_eq t) names) refl
  where
    by : (b : Bool) → is_among t names ≡ b → is_among t (if b then names else names ++ t ∷ []) ≡ true
    by true e = e
    by false e = any_right t names (t ∷ []) (ap (λ b. b || false) ((bytes_decides t t).1 refl))

names_kept : (names ts : List Text) (t : Text) → is_among t names ≡ true → is_among t (with_texts names ts) ≡ true
unfolding with_texts
names_kept names [] t h = h
names_kept names (u ∷ ts) t h = names_kept (with_text names u) ts t (name_kept names t u h)

names_seen : (names ts : List Text) (t : Text) → is_among t ts ≡ true → is_among t (with_texts names ts) ≡ true
unfolding with_texts
names_seen names [] t h = absurd (true≢false (sym h))
names_seen names (u ∷ ts) t h = by (bytes_eq t u) refl (names_seen (with_text names u) ts t)
  where
    by : (b : Bool) → bytes_eq t u ≡ b → (is_among t ts ≡ true → is_among t (with_texts (with_text names u) ts) ≡ true) → is_among t (with_texts (with_text names u) ts) ≡ true
    by true e rest = names_kept (with_text names u) ts t (subst (λ x. is_among t (with_text names x) ≡ true) ((bytes_decides t u).0 e) (name_seen names t))
    by false e rest = rest (sym (ap (λ b. b || is_among t ts) e) ∙ h)

-- ---- a group is the empty text, or a text of its row

or_middle : (a b c : Bool) → b ≡ true → (a || (b || c)) ≡ true
or_middle true b c h = refl
or_middle false b c h = ap (λ x. x || c) h

or_last : (a b c : Bool) → c ≡ true → (a || (b || c)) ≡ true
or_last true b c h = refl
or_last false true c h = refl
or_last false false c h = h

-- the empty text, or one of these
abbrev IsEmptyOrAmong : List Text → Text → Type 0
IsEmptyOrAmong ts t = (t ≡ []) ⊎ (is_among t ts ≡ true)

group_among : (key : Text) (tags : List TagText) → IsEmptyOrAmong (texts_of_tags tags) (group_of key tags)
unfolding group_of value_under tag_under texts_of_tags
group_among key [] = inl refl
group_among key (t ∷ ts) = by (bytes_eq t.key key) refl (group_among key ts)
  where
    later : (g : Text) → IsEmptyOrAmong (texts_of_tags ts) g → IsEmptyOrAmong (texts_of_tags (t ∷ ts)) g
    later g (inl empty) = inl empty
    later g (inr among) = inr (or_last (bytes_eq g t.key) (bytes_eq g t.value) (is_among g (texts_of_tags ts)) among)

    by : (b : Bool) → bytes_eq t.key key ≡ b → IsEmptyOrAmong (texts_of_tags ts) (group_of key ts) → IsEmptyOrAmong (texts_of_tags (t ∷ ts)) (group_of key (t ∷ ts))
    by true e rest =
        let same : group_of key (t ∷ ts) ≡ t.value = rw e refl in
        let own : IsEmptyOrAmong (texts_of_tags (t ∷ ts)) t.value = inr (or_middle (bytes_eq t.value t.key) (bytes_eq t.value t.value) (is_among t.value (texts_of_tags ts)) ((bytes_decides t.value t.value).1 refl)) in
        subst (IsEmptyOrAmong (texts_of_tags (t ∷ ts))) (sym same) own
    by false e rest =
        let same : group_of key (t ∷ ts) ≡ group_of key ts = rw e refl in
        subst (IsEmptyOrAmong (texts_of_tags (t ∷ ts))) (sym same) (later (group_of key ts) rest)

row_group : (key : Text) (row : Charge) → IsEmptyOrAmong (texts_of row) (group_of key row.tags)
unfolding texts_of
row_group key row =
    let g = group_of key row.tags in
    let id = option_to_list (option_map (λ (d : DiscountText). d.id) row.discount) in
    let unit = option_to_list row.unit in
    let sku = option_to_list row.sku in
    let account = option_to_list row.sub_account in
    let tags = texts_of_tags row.tags in
    ⊎_elim (λ (empty : group_of key row.tags ≡ []). inl empty)
    (λ among. inr (any_right g id (unit ++ (sku ++ (account ++ tags))) (any_right g unit (sku ++ (account ++ tags)) (any_right g sku (account ++ tags) (any_right g account tags among)))))
    (group_among key row.tags)

-- ---- the text of a code

pub name_there : (names : List Text) (t : Text) → is_among t names ≡ true → get_or names (place_of names t) [] ≡ t
unfolding place_of
name_there [] t h = absurd (true≢false (sym h))
name_there (x ∷ names) t h = by (bytes_eq t x) refl (name_there names t)
  where
    by : (b : Bool) → bytes_eq t x ≡ b → (is_among t names ≡ true → get_or names (position_or_len (bytes_eq t) names) [] ≡ t) → get_or (x ∷ names) (position_or_len (bytes_eq t) (x ∷ names)) [] ≡ t
    by true e rest =
        let first : position_or_len (bytes_eq t) (x ∷ names) ≡ 0 = ap (λ b. cond (not b) (1 + position_or_len (bytes_eq t) names) 0) e in
        ap (λ k. get_or (x ∷ names) k []) first ∙ sym ((bytes_decides t x).0 e)
    by false e rest =
        let later : position_or_len (bytes_eq t) (x ∷ names) ≡ 1 + position_or_len (bytes_eq t) names = ap (λ b. cond (not b) (1 + position_or_len (bytes_eq t) names) 0) e in
        let next : position_or_len (bytes_eq t) (x ∷ names) ≡ suc (position_or_len (bytes_eq t) names) = omega (arith, later) in
        ap (λ k. get_or (x ∷ names) k []) next ∙ rest (sym (ap (λ b. b || is_among t names) e) ∙ h)

text_of_code : (names : List Text) (t : Text) → IsEmptyOrAmong names t → code_text names (group_code names t) ≡ t
unfolding group_code
text_of_code names [] h = refl
text_of_code names (byte ∷ bytes) (inl empty) = absurd (cc)
text_of_code names (byte ∷ bytes) (inr among) = let next : 1 + place_of names (byte ∷ bytes) ≡ suc (place_of names (byte ∷ bytes)) = omega arith in rw next (name_there names (byte ∷ bytes) among)

-- the code of the row's group stands for it
pub record IsCoded (key : Text) (names : List Text) (row : Charge) : Type 0 where
  pub is : code_text names (tag_code key names row) ≡ group_of key row.tags

coded : (key : Text) (names : List Text) (rows : List Charge) → ((t : Text) → is_among t (flat_map texts_of rows) ≡ true → is_among t names ≡ true) → AllByRecursion (IsCoded key names) rows
unfolding tag_code
coded key names [] known = tt
coded key names (row ∷ rows) known =
    let own : IsEmptyOrAmong names (group_of key row.tags) =
    ⊎_elim (λ (empty : group_of key row.tags ≡ []). inl empty) (λ among. inr (known (group_of key row.tags) (any_left (group_of key row.tags) (texts_of row) (flat_map texts_of rows) among))) (row_group key row) in
    (record { is = text_of_code names (group_of key row.tags) own }, coded key names rows (λ t h. known t (any_right t (texts_of row) (flat_map texts_of rows) h)))

-- so of all rows
pub rows_coded : (key : Text) (rows : List Charge) → AllByRecursion (IsCoded key (names_of rows)) rows
unfolding names_of
rows_coded key rows = coded key (names_of rows) rows (λ t h. names_seen [] (flat_map texts_of rows) t h)

-- ---- as the text is looked up

pub text_zero : (names : List Text) (code : ℕ) → code ≡ 0 → [] ≡ code_text names code
text_zero names code none = rw none refl

pub text_past : (names : List Text) (code : ℕ) → length names ≤ code - 1 → [] ≡ code_text names code
text_past names zero past = refl
text_past names (suc code) past = sym (get_or_past names code [] (omega (arith, past)))

pub text_there : (names : List Text) (code : ℕ) (text : Text) → 0 < code → slice_get names (code - 1) ≡ Some text → text ≡ code_text names code
text_there names zero text some there = absurd (omega arith)
text_there names (suc code) text some there =
    let same : suc code - 1 ≡ code = omega arith in
    sym (get_or_from_slice_get names code text [] (rw same at there))
