-- The first rows of segments.
use Rattle.std.proofs.Common.{◌≡◌, ◌≤◌, ◌∙◌, ◌+◌, ◌-◌, ◌++◌, ℕ, zero, suc, List, [], ◌∷◌, length, take, drop, refl, sym, ap, arith, slice_get, Some, append-nil, append_assoc}
use Rattle.std.proofs.lemmas.List.{drop_all, take_more, take_all}
use Rattle.std.proofs.lemmas.List.Concat.{flat_map-append, flat_map-cons}
use Rattle.std.proofs.lemmas.Option.{slice_get_within, get_or_from_slice_get}
use Rattle.fw_charge.specs.Charge.{Charge}
use Rattle.fw_entries.proofs.Left.{from_place}
use Rattle.fw_posted.specs.Rows.{segment_rows}

-- the first of two lists, one behind the other
take_over : (n : ℕ) (xs ys : List Charge) → take n (xs ++ ys) ≡ take n xs ++ take (n - length xs) ys
take_over zero xs ys = let none : 0 - length xs ≡ 0 = omega arith in rw none refl
take_over (suc n) [] ys = let all : suc n - 0 ≡ suc n = omega arith in rw all refl
take_over (suc n) (x ∷ xs) ys =
    let less : suc n - suc (length xs) ≡ n - length xs = omega arith in
    rw less (ap (λ (l : List Charge). x ∷ l) (take_over n xs ys))

no_segments : segment_rows [] ≡ []
no_segments = refl

-- no rows are wanted any more
pub none_wanted : (front : List (List Charge)) (rest all : List Charge) (left : ℕ) → segment_rows front ++ take left rest ≡ all → left ≡ 0 → segment_rows front ≡ all
none_wanted front rest all left is none = sym (append-nil (segment_rows front)) ∙ ap (λ (n : ℕ). segment_rows front ++ take n rest) (sym none) ∙ is

-- no segment is left
pub none_behind : (front segments : List (List Charge)) (all : List Charge) (left place : ℕ) → segment_rows front ++ take left (segment_rows (drop place segments)) ≡ all → length segments ≤ place
    → segment_rows front ≡ all
none_behind front segments all left place is past =
    let gone : segment_rows (drop place segments) ≡ [] = ap segment_rows (drop_all place segments past) in
    let nothing : take left (segment_rows (drop place segments)) ≡ [] = ap (take left) gone ∙ take_all left [] (omega arith) in
    sym (append-nil (segment_rows front)) ∙ ap (λ (l : List Charge). segment_rows front ++ l) (sym nothing) ∙ is

-- one segment more, or its front
pub segment_more : (front segments : List (List Charge)) (all segment first : List Charge) (left place : ℕ) → segment_rows front ++ take left (segment_rows (drop place segments)) ≡ all
    → slice_get segments place ≡ Some segment → first ≡ take left segment
    → segment_rows (front ++ first ∷ []) ++ take (left - length segment) (segment_rows (drop (place + 1) segments)) ≡ all
segment_more front segments all segment first left place is there cut =
    let rest = segment_rows (drop (place + 1) segments) in
    let split : segment_rows (drop place segments) ≡ segment ++ rest =
    ap segment_rows (from_place segments place segment there) ∙ flat_map-cons (λ (rows : List Charge). rows) segment (drop (place + 1) segments) in
    let two : take left (segment_rows (drop place segments)) ≡ first ++ take (left - length segment) rest =
    ap (take left) split ∙ take_over left segment rest ∙ ap (λ (l : List Charge). l ++ take (left - length segment) rest) (sym cut) in
    let one : segment_rows (first ∷ []) ≡ first = flat_map-cons (λ (rows : List Charge). rows) first [] ∙ append-nil first in
    let more : segment_rows (front ++ first ∷ []) ≡ segment_rows front ++ first =
    flat_map-append (λ (rows : List Charge). rows) front (first ∷ []) ∙ ap (λ (l : List Charge). segment_rows front ++ l) one in
    ap (λ (l : List Charge). l ++ take (left - length segment) rest) more
    ∙ append_assoc (segment_rows front) first (take (left - length segment) rest)
    ∙ ap (λ (l : List Charge). segment_rows front ++ l) (sym two)
    ∙ is

-- the first rows of a segment, with one more
pub row_more : (rows first : List Charge) (place : ℕ) (row : Charge) → first ≡ take place rows → slice_get rows place ≡ Some row → first ++ row ∷ [] ≡ take (place + 1) rows
row_more rows first place row is there =
    ap (λ (l : List Charge). l ++ row ∷ []) is
    ∙ ap (λ (x : Charge). take place rows ++ x ∷ []) (sym (get_or_from_slice_get rows place row row there))
    ∙ sym (take_more rows place row (slice_get_within rows place row there))
