-- What is read of the fields is spelled so, and what is spelled so is read.
use Rattle.std.proofs.Common.{◌≡◌, ℕ, zero, suc, ◌+◌, ◌-◌, ◌*◌, ◌/◌, ◌^◌, List, [], ◌∷◌, ◌++◌, length, Some, Ok, refl, sym, subst, append_assoc, arith}
use Rattle.std.specs.Prelude.{nat_le}
use Rattle.std.specs.List.{flat_map, AllByRecursion}
use Rattle.std.specs.Int.{w32}
use Rattle.fw_bytes.specs.Spelling.{number32, number64, text, listed, pair, within, Fits32, FitsChecked}
use Rattle.fw_bytes.specs.Reading.{◌>>=◌, times}
use Rattle.fw_bytes.proofs.Laws.{Takes, Takes-then, IsFormat, bind_ok, ok_is, checked_format, seen_format, both_format, list_format, number_format, wide32, code_format, times_takes, times_again}
use Rattle.fw_charge.specs.Spelling.{nanos}
use Rattle.fw_charge.specs.Tags.{most_tags}
use Rattle.fw_row_table.specs.Names.{Text}
use Rattle.fw_fields.proofs.FieldFormats.{nanos_format, second_format, tag_text_format}
use Rattle.fw_column_bytes.specs.Spelling.{layout}
use Rattle.fw_column_bytes.specs.Reading.{byte_at, is_text_code, text_code_at, is_place_code, place_at, tag_count_at, tag_places_at, row_count_at, most_names, names_at, Front, front_at, Body, body_at, amounts_at, periods_at, discounts_at, quantities_at, texts_at, Parts, parts_at}
use Rattle.fw_column_bytes.specs.Fits.{FitsTimes, FitsByte, FitsTextCode, FitsPlace, FitsPlaces, FitFront, FitBody, FitParts}
use Rattle.fw_column_bytes.proofs.Copied.{codes, places_spelled}
use Rattle.fw_row_table.specs.Table.{most_column_rows}
use Rattle.fw_charge.specs.Codes.{category_count}

-- ---- so many values

pub times_format : {A : Type 0} {read : List ℕ → Rattle.std.specs.Prelude.Result (A × List ℕ) ℕ} {spell : A → List ℕ} {Fits : A → Type 0} (n : ℕ) → IsFormat read spell Fits → IsFormat (times read n) (flat_map spell) (FitsTimes n Fits)
times_format {A = A} {read = read} {spell = spell} n f = record {
  takes = λ bytes x is e. let t = times_takes f n bytes x is e in (t.0, (t.1, t.2));
  again = λ xs rest h. subst (λ (m : ℕ). times read m (flat_map spell xs ++ rest) ≡ Ok (xs, rest)) h.0 (times_again f xs rest h.1);
}

-- ---- single fields

abbrev pub one_byte : ℕ → List ℕ
one_byte b = b ∷ []

some_is : (b x : ℕ) → Some b ≡ Some x → x ≡ b
some_is b x e = cc

pub byte_format : (least most : ℕ) → IsFormat (byte_at least most) one_byte (FitsByte least most)
unfolding byte_at
byte_format least most = checked_format (within least most) (code_format (λ b. Some b) (λ b. b) some_is (λ x. refl))

pub text_code_format : (names : List Text) → IsFormat (text_code_at names) number32 (FitsTextCode names)
unfolding text_code_at
text_code_format names = checked_format (is_text_code names) (number_format w32 (2 ^ 32) wide32)

again_there : (names : List Text) (c : ℕ) → FitsChecked (is_place_code names) Fits32 c → 1 + (c - 1) ≡ c
again_there names zero h = absurd (let e = h.1 in cc)
again_there names (suc c) h = omega arith

pub place_format : (names : List Text) → IsFormat (place_at names) (λ place. number32 (1 + place)) (FitsPlace names)
unfolding place_at
place_format names =
    seen_format (λ c. c - 1) (λ place. 1 + place) (again_there names) (λ place h. omega arith) (checked_format (is_place_code names) (number_format w32 (2 ^ 32) wide32))

-- ---- the tags of a row

tag_count_format : IsFormat tag_count_at number32 (FitsChecked (λ n. nat_le n most_tags) Fits32)
unfolding tag_count_at
tag_count_format = checked_format (λ n. nat_le n most_tags) (number_format w32 (2 ^ 32) wide32)

half : (n m : ℕ) → n ≡ 2 * m → n / 2 ≡ m
half n m e = omega (arith, e)

pub tag_places_format : (names : List Text) → IsFormat (tag_places_at names) places_spelled (FitsPlaces names)
unfolding tag_places_at
tag_places_format names = record {
  takes = λ bytes x is e.
      let b = bind_ok (tag_count_at bytes) (λ count. times (place_at names) (2 * count.0) count.1) x e in
      let t = tag_count_format.takes bytes b.0 is b.1 in
      let u = times_takes (place_format names) (2 * b.0.0) b.0.1 x t.0.rest_fits b.2 in
      let count : length x.0 / 2 ≡ b.0.0 = half (length x.0) b.0.0 u.1 in
      let whole = Takes-then bytes (number32 b.0.0) b.0.1 (codes x.0) x.1 t.0 u.0 in
      let few : FitsChecked (λ n. nat_le n most_tags) Fits32 (length x.0 / 2) = subst (λ (n : ℕ). FitsChecked (λ n. nat_le n most_tags) Fits32 n) (sym count) t.1 in
      (subst (λ (n : ℕ). Takes bytes (number32 n ++ codes x.0) x.1) (sym count) whole, record { even = omega (arith, count, u.1); few = few; each = u.2 });
  again = λ places rest h.
      let counted = tag_count_format.again (length places / 2) (codes places ++ rest) h.few in
      let read : times (place_at names) (2 * (length places / 2)) (codes places ++ rest) ≡ Ok (places, rest) =
      subst (λ (n : ℕ). times (place_at names) n (codes places ++ rest) ≡ Ok (places, rest)) (sym h.even) (times_again (place_format names) places rest h.each) in
      rw (append_assoc (number32 (length places / 2)) (codes places) rest, counted) read;
}

-- ---- what stands in front of the columns

abbrev pub spelled_front : Front → List ℕ
spelled_front = pair one_byte (pair number32 (listed text))

pub front_format : IsFormat front_at spelled_front FitFront
unfolding front_at row_count_at names_at
front_format = both_format (byte_format layout layout) (both_format (checked_format (within 1 most_column_rows) (number_format w32 (2 ^ 32) wide32)) (list_format 0 most_names tag_text_format))

-- ---- the columns

abbrev pub spelled_body : Body → List ℕ
spelled_body =
    pair (pair (flat_map nanos) (pair (flat_map nanos) (pair (flat_map one_byte) (flat_map one_byte)))) (pair (pair (flat_map number64) (flat_map number64))
    (pair (pair (flat_map number32) (pair (flat_map one_byte) (flat_map one_byte)))
    (pair (pair (flat_map one_byte) (flat_map nanos))
    (pair (pair (flat_map number32) (pair (flat_map number32) (flat_map number32))) (flat_map places_spelled)))))

pub body_format : (names : List Text) (n : ℕ) → IsFormat (body_at names n) spelled_body (FitBody names n)
unfolding body_at amounts_at periods_at discounts_at quantities_at texts_at
body_format names n =
    both_format (both_format (times_format n nanos_format) (both_format (times_format n nanos_format) (both_format (times_format n (byte_format 1 category_count)) (times_format n (byte_format 0 1)))))
    (both_format (both_format (times_format n second_format) (times_format n second_format))
    (both_format (both_format (times_format n (text_code_format names)) (both_format (times_format n (byte_format 0 2)) (times_format n (byte_format 0 2))))
    (both_format (both_format (times_format n (byte_format 0 1)) (times_format n nanos_format))
    (both_format (both_format (times_format n (text_code_format names)) (both_format (times_format n (text_code_format names)) (times_format n (text_code_format names)))) (times_format n (tag_places_format names))))))

-- ---- both

abbrev pub spelled_parts : Parts → List ℕ
spelled_parts = pair spelled_front spelled_body

pub parts_format : IsFormat parts_at spelled_parts FitParts
unfolding parts_at
parts_format = record {
  takes = λ bytes x is e.
      let a = bind_ok (front_at bytes) (λ front. body_at front.0.1.1 front.0.1.0 front.1 >>= λ body. Ok ((front.0, body.0), body.1)) x e in
      let b = bind_ok (body_at a.0.0.1.1 a.0.0.1.0 a.0.1) (λ body. Ok ((a.0.0, body.0), body.1)) x a.2 in
      let t = front_format.takes bytes a.0 is a.1 in
      let u = (body_format a.0.0.1.1 a.0.0.1.0).takes a.0.1 b.0 t.0.rest_fits b.1 in
      let made : Parts × List ℕ = ((a.0.0, b.0.0), b.0.1) in
      subst (λ (z : Parts × List ℕ). Takes bytes (spelled_parts z.0) z.1 × FitParts z.0) (ok_is made x b.2) (Takes-then bytes (spelled_front a.0.0) a.0.1 (spelled_body b.0.0) b.0.1 t.0 u.0, (t.1, u.1));
  again = λ p rest h.
      rw (append_assoc (spelled_front p.0) (spelled_body p.1) rest, front_format.again p.0 (spelled_body p.1 ++ rest) h.0, (body_format p.0.1.1 p.0.1.0).again p.1 rest h.1) refl;
}
