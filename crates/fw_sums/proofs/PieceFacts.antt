-- Lemmas on what is brought piece by piece.
use Rattle.std.proofs.Common.{◌≡◌, ◌∙◌, ℕ, zero, suc, ◌+◌, ◌*◌, ◌≤◌, ◌<◌, Bool, List, [], ◌∷◌, ◌++◌, length, map, take, drop, get_or, Bor, sym, ap, refl, subst, arith, append-nil}
use Rattle.std.specs.Prelude.{Result}
use Rattle.std.specs.List.{AllZip, range_with_len}
use Rattle.std.specs.declared.alloc.AllocError.{AllocError}
use Rattle.std.proofs.Math.Seq.{take-add}
use Rattle.std.proofs.lemmas.Grind.{flat_map-append}
use Rattle.std.proofs.lemmas.List.{map-append, take_all, take_more}
use Rattle.std.proofs.lemmas.List.Elements.{filter-append}
use Rattle.std.proofs.lemmas.List.FromFn.{map-range_with_len_more}
use Rattle.fw_charge.specs.Charge.{Charge, hour_of}
use Rattle.fw_sums.specs.Costs.{Cost}
use Rattle.fw_sums.specs.Hours.{all_rows, is_marked, lent, row_cost, rows_marked}
use Rattle.fw_sums.specs.Parts.{PartCounts, in_turn}
use Rattle.fw_sums.specs.declared.groups.Groups.{Groups}

-- ---- the parts of pieces

-- a part is of the piece at its place
pub part_at : (pieces : List (List Cost)) (parts : List (Result Groups AllocError)) (i : ℕ) (p : Result Groups AllocError) → AllZip PartCounts pieces parts → i < length parts → p ≡ get_or parts i p → PartCounts (get_or pieces i []) p
part_at [] [] i p all below is = absurd (omega arith)
part_at [] (x ∷ parts) i p all below is = absurd all
part_at (c ∷ pieces) [] i p all below is = absurd all
part_at (c ∷ pieces) (x ∷ parts) zero p all below is = subst (PartCounts c) (sym is) all.0
part_at (c ∷ pieces) (x ∷ parts) (suc i) p all below is = part_at pieces parts i p all.1 (omega arith) is

-- as many pieces as parts
pub as_many : (pieces : List (List Cost)) (parts : List (Result Groups AllocError)) → AllZip PartCounts pieces parts → length pieces ≡ length parts
as_many [] [] all = refl
as_many [] (x ∷ parts) all = absurd all
as_many (c ∷ pieces) [] all = absurd all
as_many (c ∷ pieces) (x ∷ parts) all = ap suc (as_many pieces parts all.1)

-- a piece more
pub piece_more : (pieces : List (List Cost)) (i : ℕ) → i < length pieces → in_turn (take (i + 1) pieces) ≡ in_turn (take i pieces) ++ get_or pieces i []
piece_more pieces i below =
    ap in_turn (take_more pieces i [] below) ∙ flat_map-append (λ (costs : List Cost). costs) (take i pieces) (get_or pieces i [] ∷ []) ∙ ap (λ l. in_turn (take i pieces) ++ l) (append-nil (get_or pieces i []))

-- what is brought by each of so many numbers from one on
by_number : (brings : ℕ → List Cost) (from n : ℕ) (parts : List (Result Groups AllocError)) → length parts ≡ n → ((k : ℕ) (p : Result Groups AllocError) → k < n → PartCounts (brings (from + k)) (get_or parts k p))
    → AllZip PartCounts (map brings (range_with_len from n)) parts
by_number brings from zero [] long each = tt
by_number brings from zero (p ∷ parts) long each = absurd (omega (arith, long))
by_number brings from (suc n) [] long each = absurd (omega (arith, long))
by_number brings from (suc n) (p ∷ parts) long each = (
  subst (λ k. PartCounts (brings k) p) {x = from + 0} (omega arith) (each 0 p (omega arith)),
  by_number brings (from + 1) n parts (omega (arith, long)) (λ k q l. subst (λ i. PartCounts (brings i) (get_or parts k q)) {x = from + suc k} (omega arith) (each (suc k) q (omega (arith, l)))),
)

-- so of the numbers from 0 on
pub collected : (brings : ℕ → List Cost) (n : ℕ) (found parts : List (Result Groups AllocError)) → parts ≡ found → length parts ≡ n → ((k : ℕ) (p : Result Groups AllocError) → k < n → PartCounts (brings k) (get_or found k p))
    → AllZip PartCounts (map brings (range_with_len 0 n)) parts
collected brings n found parts same long each = by_number brings 0 n parts long (λ k p l. subst (λ i. PartCounts (brings i) (get_or parts k p)) {x = k} (omega arith) (rw same (each k p l)))

-- ---- a list that is cut into pieces

-- the piece with a number
abbrev pub piece_of : {X : Type 0} → ℕ → List X → ℕ → List X
piece_of size xs n = take size (drop (size * n) xs)

module _ {X : Type 0} (brings : List X → List Cost) (nothing : brings [] ≡ []) (behind : (xs ys : List X) → brings (xs ++ ys) ≡ brings xs ++ brings ys) (size : ℕ) (xs : List X) where
  so_many : (n : ℕ) → in_turn (map (λ w. brings (piece_of size xs w)) (range_with_len 0 n)) ≡ brings (take (size * n) xs)
  so_many zero = let none : size * 0 ≡ 0 = omega arith in sym (ap (λ k. brings (take k xs)) none ∙ nothing)
  so_many (suc n) =
      let f : ℕ → List Cost = λ w. brings (piece_of size xs w) in
      let next : suc n ≡ n + 1 = omega arith in
      let size_next : size * n + size ≡ size * suc n = omega arith in
      ap (λ k. in_turn (map f (range_with_len 0 k))) next
      ∙ ap in_turn (map-range_with_len_more f 0 n n (omega arith))
      ∙ flat_map-append (λ (costs : List Cost). costs) (map f (range_with_len 0 n)) (f n ∷ [])
      ∙ ap (λ l. in_turn (map f (range_with_len 0 n)) ++ l) (append-nil (f n))
      ∙ ap (λ l. l ++ f n) (so_many n)
      ∙ sym (behind (take (size * n) xs) (piece_of size xs n))
      ∙ ap brings (sym (take-add (size * n) size xs))
      ∙ ap (λ k. brings (take k xs)) size_next

  -- all pieces bring what the list does
  pub all_pieces : (n : ℕ) → length xs ≤ size * n → in_turn (map (λ w. brings (piece_of size xs w)) (range_with_len 0 n)) ≡ brings xs
  all_pieces n enough = so_many n ∙ ap brings (take_all (size * n) xs enough)

-- what the rows of segments bring that are of marked hours
abbrev pub segment_costs : List ℕ → List Bool → ℕ → List (Bor (List Charge)) → List Cost
segment_costs key marks from segments = map (row_cost key) (rows_marked marks from (all_rows (lent segments)))

pub segments_behind : (key : List ℕ) (marks : List Bool) (from : ℕ) (xs ys : List (Bor (List Charge))) → segment_costs key marks from (xs ++ ys) ≡ segment_costs key marks from xs ++ segment_costs key marks from ys
segments_behind key marks from xs ys =
    ap (map (row_cost key))
    (ap (rows_marked marks from) (ap all_rows (map-append (λ (s : Bor (List Charge)). s.now) xs ys) ∙ flat_map-append (λ (rows : List Charge). rows) (lent xs) (lent ys))
    ∙ filter-append (λ row. is_marked marks from (hour_of row.start)) (all_rows (lent xs)) (all_rows (lent ys)))
    ∙ map-append (row_cost key) (rows_marked marks from (all_rows (lent xs))) (rows_marked marks from (all_rows (lent ys)))
