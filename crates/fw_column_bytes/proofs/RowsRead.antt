-- The rows of fields that were read, each in its range.
use Rattle.std.proofs.Common.{◌≡◌, ℕ, zero, suc, ◌+◌, ◌/◌, ◌<◌, ◌≤◌, Bool, true, false, List, [], ◌∷◌, length, get_or, cond, All, refl, subst, ◌∙◌, arith, ℤ}
use Rattle.std.specs.Prelude.{pos, nat_lt, map}
use Rattle.std.specs.List.{AllByRecursion, range_with_len}
use Rattle.std.proofs.lemmas.Bool.{and_parts, ltb-true, ltb-false, leb-true}
use Rattle.std.proofs.lemmas.List.{length-map}
use Rattle.std.proofs.lemmas.List.FromFn.{length-range_with_len}
use Rattle.std.proofs.lemmas.List.Elements.{All-from_recursion, All-nil, All-cons}
use Rattle.fw_bytes.specs.Spelling.{FitsOptional, within}
use Rattle.fw_bytes.proofs.Laws.{list_fits, list_parts}
use Rattle.fw_charge.specs.Spelling.{FitsNanos, FitsShortText, FitsTagText, FitsTag, FitsTags, IsRow, is_short}
use Rattle.fw_charge.specs.Tags.{most_tags}
use Rattle.fw_row_table.specs.Names.{Text}
use Rattle.fw_row_table.specs.Table.{text_at, text_of, quantity_of, tag_of, tags_of, most_column_rows}
use Rattle.fw_row_table.proofs.LendingFacts.{tags_counted}
use Rattle.fw_fields.specs.Row.{fields_agree, row_from}
use Rattle.fw_fields.proofs.RowOfFields.{FitFields, is_row_from}
use Rattle.fw_column_bytes.specs.Reading.{is_place_code, most_names, Front, Parts, fields_at_place}
use Rattle.fw_column_bytes.specs.Fits.{FitsTimes, FitsTextCode, FitsPlace, FitsPlaces, FitFront, FitParts}

-- what each value of a column keeps
pub each_keeps : {A : Type 0} (Fits : A → Type 0) (n : ℕ) (xs : List A) (i : ℕ) (d : A) → FitsTimes n Fits xs → i < n → Fits (get_or xs i d)
each_keeps Fits n xs i d h lt = let size : length xs ≡ n = h.0 in All-from_recursion Fits xs h.1 i d (omega (arith, size, lt))

pub one_more : (n : ℕ) → 1 + n ≡ suc n
one_more n = omega arith

module _ (names : List Text) (fit : All FitsTagText names) where
  -- the text of a code
  pub text_fits : (code : ℕ) → FitsTextCode names code → FitsOptional FitsShortText (text_of names code)
  unfolding text_of text_at
  text_fits zero h = tt
  text_fits (suc place) h =
      let p = and_parts (nat_lt place (length names)) (is_short (text_at names place)) h.1 in
      ((fit place [] (ltb-true _ _ p.0)).0, p.1)

  -- the text at a place
  pub place_below : (place : ℕ) → FitsPlace names place → place < length names
  place_below place h = ltb-true _ _ (subst (λ (n : ℕ). is_place_code names n ≡ true) (one_more place) h.1)

  tag_text_fits : (place : ℕ) → FitsPlace names place → FitsTagText (text_at names place)
  unfolding text_at
  tag_text_fits place h = fit place [] (place_below place h)

  each_tag_fits : (places : List ℕ) → AllByRecursion (FitsPlace names) places → All FitsTag (tags_of names places)
  unfolding tags_of tag_of
  each_tag_fits [] h = All-nil FitsTag
  each_tag_fits (key ∷ []) h = All-nil FitsTag
  each_tag_fits (key ∷ value ∷ places) h =
      All-cons FitsTag (tag_of names key value) (tags_of names places) (tag_text_fits key h.0, tag_text_fits value h.1.0) (each_tag_fits places h.1.1)

  pub tags_fit : (places : List ℕ) → FitsPlaces names places → FitsTags (tags_of names places)
  tags_fit places h =
      let count : length places / 2 ≡ length (tags_of names places) = tags_counted names places in
      let few : length places / 2 ≤ most_tags = leb-true _ _ h.few.1 in
      list_fits FitsTag 0 most_tags (tags_of names places) (omega arith) (omega (arith, count, few)) (omega arith) (each_tag_fits places h.each)

quantity_fits : (there : Bool) (z : ℤ) → FitsNanos z → FitsOptional FitsNanos (quantity_of there z)
unfolding quantity_of
quantity_fits false z h = tt
quantity_fits true z h = h

module _ (p : Parts) (h : FitParts p) where
  pub names_fit : All FitsTagText p.0.1.1
  names_fit = (list_parts FitsTagText 0 most_names p.0.1.1 h.0.1.1).2

  module _ (i : ℕ) (lt : i < p.0.1.0) where
    pub fields_fit : FitFields (fields_at_place p i)
    unfolding fields_at_place
    fields_fit =
        let b = h.1 in
        let names = p.0.1.1 in
        let text = λ (xs : List ℕ) (k : FitsTimes p.0.1.0 (FitsTextCode names) xs). text_fits names names_fit (get_or xs i 0) (each_keeps (FitsTextCode names) p.0.1.0 xs i 0 k lt) in (
          (each_keeps FitsNanos p.0.1.0 p.1.0.0 i (pos 0) b.0.0 lt, (each_keeps FitsNanos p.0.1.0 p.1.0.1.0 i (pos 0) b.0.1.0 lt, (tt, tt))),
          (
            (each_keeps _ p.0.1.0 p.1.1.0.0 i 0 b.1.0.0 lt, each_keeps _ p.0.1.0 p.1.1.0.1 i 0 b.1.0.1 lt),
            (
              (text p.1.1.1.0.0 b.1.1.0.0, (tt, tt)),
              (
                (
                  quantity_fits _ (get_or p.1.1.1.1.0.1 i (pos 0)) (each_keeps FitsNanos p.0.1.0 p.1.1.1.1.0.1 i (pos 0) b.1.1.1.0.1 lt),
                  (text p.1.1.1.1.1.0.0 b.1.1.1.1.0.0, (text p.1.1.1.1.1.0.1.0 b.1.1.1.1.0.1.0, text p.1.1.1.1.1.0.1.1 b.1.1.1.1.0.1.1)),
                ),
                tags_fit names names_fit (get_or p.1.1.1.1.1.1 i []) (each_keeps (FitsPlaces names) p.0.1.0 p.1.1.1.1.1.1 i [] b.1.1.1.1.1 lt),
              ),
            ),
          ),
        )

    pub row_kept : fields_agree (fields_at_place p i) ≡ true → IsRow (row_from (fields_at_place p i))
    row_kept e = is_row_from (fields_at_place p i) fields_fit e

-- ---- numbers within their limits, as that of rows

pub within_is : (low high : Bool) → cond low false (cond high false true) ≡ true → (low ≡ false) × (high ≡ false)
within_is true high e = absurd cc
within_is false true e = absurd cc
within_is false false e = (refl, refl)

pub at_most : (least most n : ℕ) → within least most n ≡ true → n ≤ most
at_most least most n h = ltb-false _ _ (within_is (nat_lt n least) (nat_lt most n) h).1

pub count_within : (p : Parts) → FitParts p → (1 ≤ p.0.1.0) × (p.0.1.0 ≤ most_column_rows)
count_within p h =
    let w = within_is (nat_lt p.0.1.0 1) (nat_lt most_column_rows p.0.1.0) h.0.1.0.1 in
    (ltb-false _ _ w.0, at_most 1 most_column_rows p.0.1.0 h.0.1.0.1)

pub front_within : (f : Front) → FitFront f → f.1.0 ≤ most_column_rows
front_within f h = at_most 1 most_column_rows f.1.0 h.1.0.1

pub made_count : (p : Parts) (n : ℕ) → length (map row_from (map (fields_at_place p) (range_with_len 0 n))) ≡ n
made_count p n = length-map (map (fields_at_place p) (range_with_len 0 n)) row_from ∙ (length-map (range_with_len 0 n) (fields_at_place p) ∙ length-range_with_len 0 n)
