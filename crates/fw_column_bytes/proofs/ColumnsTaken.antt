-- What is read of rows by column is spelled so.
use Rattle.std.proofs.Common.{◌≡◌, ℕ, zero, suc, ◌+◌, ◌-◌, ◌<◌, Bool, true, List, ◌++◌, length, get_or, take, drop, All, Result, Ok, Err, cond, sym, ap, subst, ◌∙◌, arith, length-append}
use Rattle.std.specs.Prelude.{map, ◌&&◌}
use Rattle.std.specs.List.{list_all, range_with_len}
use Rattle.std.specs.Str.{bytes_eq}
use Rattle.std.specs.Cmp.Lexicographic.{bytes_decides}
use Rattle.std.proofs.lemmas.Bool.{and_parts}
use Rattle.std.proofs.lemmas.List.{take-append-drop, drop_at}
use Rattle.std.proofs.lemmas.List.Elements.{All-map}
use Rattle.std.proofs.lemmas.List.FromFn.{length-range_with_len, get_or-range_with_len}
use Rattle.fw_bytes.proofs.Laws.{IsBytes, Takes, bind_ok, passed, ok_is}
use Rattle.fw_charge.specs.Charge.{Charge}
use Rattle.fw_charge.specs.Spelling.{IsRow}
use Rattle.fw_fields.specs.Row.{fields_agree, row_from}
use Rattle.fw_column_bytes.specs.Kept.{AreRows}
use Rattle.fw_column_bytes.specs.Fits.{FitParts}
use Rattle.fw_column_bytes.specs.Spelling.{columns}
use Rattle.fw_column_bytes.specs.Reading.{Parts, parts_at, fields_at_place, rows_fields, rows_from, columns_at}
use Rattle.fw_column_bytes.proofs.PartsFormat.{spelled_parts, parts_format}
use Rattle.fw_column_bytes.proofs.RowsRead.{row_kept, count_within, made_count}

one_passes : {A : Type 0} (test : A → Bool) (f : ℕ → A) (a n i j : ℕ) → list_all test (map f (range_with_len a n)) ≡ true → i < n → a + i ≡ j → test (f j) ≡ true
one_passes test f a zero i j h lt at = absurd (omega arith)
one_passes test f a (suc n) zero j h lt at =
    let same : a ≡ j = omega (arith, at) in
    subst (λ (k : ℕ). test (f k) ≡ true) same (and_parts (test (f a)) (list_all test (map f (range_with_len (a + 1) n))) h).0
one_passes test f a (suc n) (suc i) j h lt at =
    one_passes test f (a + 1) n i j (and_parts (test (f a)) (list_all test (map f (range_with_len (a + 1) n))) h).1 (omega arith) (omega (arith, at))

module _ (p : Parts) (h : FitParts p) (agree : list_all fields_agree (rows_fields p) ≡ true) where
  row_at_place : (i : ℕ) → i < p.0.1.0 → IsRow (row_from (fields_at_place p i))
  unfolding rows_fields
  row_at_place i lt = row_kept p h i lt (one_passes fields_agree (fields_at_place p) 0 p.0.1.0 i i agree lt (omega arith))

  each_row : All IsRow (rows_from p)
  unfolding rows_from rows_fields
  each_row =
      let Row : ℕ → Type 0 = λ i. IsRow (row_from (fields_at_place p i)) in
      let each : All Row (range_with_len 0 p.0.1.0) =
      (λ k d lt.
      let size : length (range_with_len 0 p.0.1.0) ≡ p.0.1.0 = length-range_with_len 0 p.0.1.0 in
      let below : k < p.0.1.0 = omega (arith, size, lt) in
      let there : k ≡ get_or (range_with_len 0 p.0.1.0) k d = sym (get_or-range_with_len 0 p.0.1.0 k d below ∙ (omega arith)) in
      subst Row there (row_at_place k below)) in
      All-map IsRow row_from (map (fields_at_place p) (range_with_len 0 p.0.1.0)) (All-map (λ f. IsRow (row_from f)) (fields_at_place p) (range_with_len 0 p.0.1.0) each)

  are_rows : AreRows (rows_from p)
  unfolding rows_from rows_fields
  are_rows =
      let count : length (rows_from p) ≡ p.0.1.0 = made_count p p.0.1.0 in
      let w = count_within p h in
      record { some = omega (arith, count, w.0); few = omega (arith, count, w.1); each = each_row }

-- the bytes in front of the rest
front_is : (bytes spelled rest : List ℕ) → bytes ≡ spelled ++ rest → bytes ≡ take (length bytes - length rest) bytes ++ rest
front_is bytes spelled rest e =
    let size : length bytes ≡ length spelled + length rest = ap length e ∙ length-append spelled rest in
    let n : length spelled ≡ length bytes - length rest = omega (arith, size) in
    let back : drop (length bytes - length rest) bytes ≡ rest = ap (drop (length bytes - length rest)) e ∙ drop_at spelled rest (length bytes - length rest) n in
    sym (take-append-drop (length bytes - length rest) bytes) ∙ ap (λ (w : List ℕ). take (length bytes - length rest) bytes ++ w) back

pub columns_taken_so : (bytes : List ℕ) (x : List Charge × List ℕ) → IsBytes bytes → columns_at bytes ≡ Ok x → Takes bytes (columns x.0) x.1 × AreRows x.0
unfolding columns_at
columns_taken_so bytes x is e =
    let Rest : Parts × List ℕ → Result (List Charge × List ℕ) ℕ =
    λ p. cond (list_all fields_agree (rows_fields p.0) && bytes_eq (columns (rows_from p.0)) (take (length bytes - length p.1) bytes)) (Ok (rows_from p.0, p.1)) (Err (length bytes)) in
    let b = bind_ok (parts_at bytes) Rest x e in
    let p = b.0.0 in
    let rest = b.0.1 in
    let made : List Charge × List ℕ = (rows_from p, rest) in
    let g = passed (list_all fields_agree (rows_fields p) && bytes_eq (columns (rows_from p)) (take (length bytes - length rest) bytes)) (length bytes) (Ok made) x b.2 in
    let both = and_parts (list_all fields_agree (rows_fields p)) (bytes_eq (columns (rows_from p)) (take (length bytes - length rest) bytes)) g.0 in
    let t = parts_format.takes bytes b.0 is b.1 in
    let spelled : columns (rows_from p) ≡ take (length bytes - length rest) bytes = (bytes_decides _ _).0 both.1 in
    let whole : bytes ≡ columns (rows_from p) ++ rest = front_is bytes (spelled_parts p) rest t.0.parts ∙ ap (λ (w : List ℕ). w ++ rest) (sym spelled) in
    let took : Takes bytes (columns made.0) made.1 = record { parts = whole; rest_fits = t.0.rest_fits } in
    subst (λ (y : List Charge × List ℕ). Takes bytes (columns y.0) y.1 × AreRows y.0) (ok_is made x g.1) (took, are_rows p t.1 both.0)
