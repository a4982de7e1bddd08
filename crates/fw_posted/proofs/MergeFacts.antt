-- Segments that are joined have the same rows, and there are no more of them than before.
use Rattle.std.proofs.Common.{◌≡◌, ◌∙◌, ◌+◌, ◌<◌, ◌≤◌, ◌++◌, ◌∷◌, [], List, Bool, true, false, ℕ, suc, length, take, drop, nat_le, Some, map, ap, sym, subst, refl, append-nil, append_assoc, arith}
use Rattle.std.proofs.lemmas.Bool.{leb-true, le-leb}
use Rattle.std.proofs.Math.Seq.{drop-length}
use Rattle.std.proofs.lemmas.List.{drop-map, drop_more, length-append, take-map}
use Rattle.std.proofs.lemmas.Option.{get_or_from_slice_get, slice_get_within}
use Rattle.std.specs.Prelude.{slice_get}
use Rattle.fw_charge.specs.Charge.{Charge}
use Rattle.fw_posted.specs.Rows.{segment_rows}
use Rattle.fw_posted.specs.Merging.{joined_to, merged, merged_from}
use Rattle.fw_row_table.specs.Table.{most_column_rows}

pub two_ways : {P : Type 0} (b : Bool) → (b ≡ true → P) → (b ≡ false → P) → P
two_ways true f g = f refl
two_ways false f g = g refl

-- the segments from a place on
from_place : (segments : List (List Charge)) (k : ℕ) (s : List Charge) → slice_get segments k ≡ Some s → drop k segments ≡ s ∷ drop (k + 1) segments
from_place segments k s there = drop_more segments k s (slice_get_within segments k s there) ∙ ap (λ one. one ∷ drop (k + 1) segments) (get_or_from_slice_get segments k s s there)

-- ---- how segments are joined, run by run

-- rows with the segments that are joined to them, and the others joined among themselves
pub merged_from_split : (rows : List Charge) (segments : List (List Charge)) → merged_from rows segments ≡ (rows ++ segment_rows (take (joined_to (length rows) segments) segments)) ∷ merged (drop (joined_to (length rows) segments) segments)
unfolding merged_from joined_to merged
merged_from_split rows [] = ap (λ r. r ∷ []) (sym (append-nil rows))
merged_from_split rows (s ∷ rest) = two_ways (nat_le (length rows + length s) most_column_rows)
    (λ fits. rw fits (
    let k : ℕ = joined_to (length rows + length s) rest in
    subst (λ n. merged_from (rows ++ s) rest ≡ ((rows ++ s) ++ segment_rows (take (joined_to n rest) rest)) ∷ merged (drop (joined_to n rest) rest)) (length-append rows s) (merged_from_split (rows ++ s) rest)
    ∙ ap (λ r. r ∷ merged (drop k rest)) (append_assoc rows s (segment_rows (take k rest)))))
    (λ over. rw over (ap (λ r. r ∷ merged (s ∷ rest)) (sym (append-nil rows))))

pub run_few : (n : ℕ) (segments : List (List Charge)) → n ≤ most_column_rows → n + length (segment_rows (take (joined_to n segments) segments)) ≤ most_column_rows
unfolding joined_to
run_few n [] few = omega (arith, few)
run_few n (s ∷ rest) few = two_ways (nat_le (n + length s) most_column_rows)
    (λ fits. rw fits (
    let more : n + length s + length (segment_rows (take (joined_to (n + length s) rest) rest)) ≤ most_column_rows = run_few (n + length s) rest (leb-true _ _ fits) in
    let both = length-append s (segment_rows (take (joined_to (n + length s) rest) rest)) in
    omega (arith, more, both)))
    (λ over. rw over (omega (arith, few)))

-- the same of segments that are lent: a first one, and those behind it
pub merged_run : {X : Type 0} (f : X → List Charge) (segments : List X) (first : X) (rest : List X) (n k : ℕ) → segments ≡ first ∷ rest → n ≡ length (f first) → k ≡ joined_to n (map f rest) → merged (map f segments) ≡ segment_rows (map f (take (1 + k) segments)) ∷ merged (map f (drop (1 + k) segments))
unfolding merged
merged_run f segments first rest n k parted len joined =
    let next : 1 + k ≡ suc k = omega arith in
    let same : k ≡ joined_to (length (f first)) (map f rest) = joined ∙ ap (λ n. joined_to n (map f rest)) len in
    rw (parted, next) (
    subst (λ j. merged_from (f first) (map f rest) ≡ (f first ++ segment_rows (take j (map f rest))) ∷ merged (drop j (map f rest))) (sym same) (merged_from_split (f first) (map f rest))
    ∙ ap (λ l. (f first ++ segment_rows l) ∷ merged (drop k (map f rest))) (take-map f k rest)
    ∙ ap (λ l. (f first ++ segment_rows (map f (take k rest))) ∷ merged l) (drop-map f k rest))

pub run_fits : {X : Type 0} (f : X → List Charge) (segments : List X) (first : X) (rest : List X) (n k : ℕ) → segments ≡ first ∷ rest → n ≡ length (f first) → k ≡ joined_to n (map f rest) → n ≤ most_column_rows → length (segment_rows (map f (take (1 + k) segments))) ≤ most_column_rows
run_fits f segments first rest n k parted len joined few =
    let next : 1 + k ≡ suc k = omega arith in
    let all : n + length (segment_rows (take (joined_to n (map f rest)) (map f rest))) ≤ most_column_rows = run_few n (map f rest) few in
    let run : n + length (segment_rows (map f (take k rest))) ≤ most_column_rows = subst (λ l. n + length (segment_rows l) ≤ most_column_rows) (ap (λ j. take j (map f rest)) (sym joined) ∙ take-map f k rest) all in
    let both : length (f first ++ segment_rows (map f (take k rest))) ≡ length (f first) + length (segment_rows (map f (take k rest))) = length-append (f first) (segment_rows (map f (take k rest))) in
    rw (parted, next) (omega (arith, run, both, len))

-- what is joined to so many rows of the segments from a place on: the one at the place, where it fits, and those behind it
pub joined_more : (n : ℕ) (segments : List (List Charge)) (k : ℕ) (s : List Charge) → slice_get segments k ≡ Some s → n + length s ≤ most_column_rows → joined_to n (drop k segments) ≡ suc (joined_to (n + length s) (drop (k + 1) segments))
unfolding joined_to
joined_more n segments k s there fits =
    ap (joined_to n) (from_place segments k s there) ∙ rw (le-leb (n + length s) most_column_rows fits) refl

pub joined_no_more : (n : ℕ) (segments : List (List Charge)) (k : ℕ) (s : List Charge) → slice_get segments k ≡ Some s → most_column_rows < n + length s → joined_to n (drop k segments) ≡ 0
unfolding joined_to
joined_no_more n segments k s there over =
    ap (joined_to n) (from_place segments k s there)
    ∙ two_ways (nat_le (n + length s) most_column_rows)
    (λ fits. absurd (let le : n + length s ≤ most_column_rows = leb-true _ _ fits in omega (arith, le, over)))
    (λ no. rw no refl)

pub joined_at_end : (n : ℕ) (segments : List (List Charge)) → joined_to n (drop (length segments) segments) ≡ 0
unfolding joined_to
joined_at_end n segments = ap (joined_to n) (drop-length segments)

-- ---- what stays

rows_from : (rows : List Charge) (segments : List (List Charge)) → segment_rows (merged_from rows segments) ≡ rows ++ segment_rows segments
unfolding merged_from
rows_from rows [] = refl
rows_from rows (s ∷ rest) = two_ways (nat_le (length rows + length s) most_column_rows)
    (λ fits. rw fits (rows_from (rows ++ s) rest ∙ append_assoc rows s (segment_rows rest)))
    (λ over. rw over (ap (λ more. rows ++ more) (rows_from s rest)))

pub rows_merged : (segments : List (List Charge)) → segment_rows (merged segments) ≡ segment_rows segments
unfolding merged
rows_merged [] = refl
rows_merged (s ∷ rest) = rows_from s rest

count_from : (rows : List Charge) (segments : List (List Charge)) → length (merged_from rows segments) ≤ suc (length segments)
unfolding merged_from
count_from rows [] = omega arith
count_from rows (s ∷ rest) = two_ways (nat_le (length rows + length s) most_column_rows)
    (λ fits. rw fits (let fewer = count_from (rows ++ s) rest in omega (arith, fewer)))
    (λ over. rw over (let fewer = count_from s rest in omega (arith, fewer)))

pub count_merged : (segments : List (List Charge)) → length (merged segments) ≤ length segments
unfolding merged
count_merged [] = omega arith
count_merged (s ∷ rest) = count_from s rest
