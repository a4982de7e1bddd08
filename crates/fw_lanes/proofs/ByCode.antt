-- Sums and marks by code, one place further.
use Rattle.std.proofs.Common.{◌≡◌, ◌≢◌, ◌∙◌, ℕ, zero, suc, ◌+◌, ◌*◌, ◌^◌, ◌<◌, ◌≤◌, ◌==◌, ◌&&◌, ◌||◌, ℤ, pos, ◌+ℤ◌, nat_abs, Bool, true, false, List, [], ◌∷◌, length, map, take, get_or, replicate, set, sym, ap, refl, subst, All, arith, ⊎_elim}
use Rattle.std.proofs.lemmas.Bool.{cases_eq}
use Rattle.std.proofs.lemmas.Bool.Decides.{nat_tests}
use Rattle.std.proofs.lemmas.Int.{ints}
use Rattle.std.proofs.lemmas.List.{length-map, length-replicate, get_or-replicate, length-set, map-set, get_or-set_same, get_or-set_other, get_or_default}
use Rattle.std.proofs.Math.ListN.{get_or-map}
use Rattle.fw_lanes.specs.Masked.{AddsByCode, AddsRows, AreMarksByCode, AreRowSums, AreSumsByCode, HasRoom, MarksByCode, billed_of, effective_of, is_at_code, kept_of, marks_of, mask_of_code, masked_sum_of}
use Rattle.fw_lanes.specs.declared.by_code.CodeSum.{CodeSum}

-- the mask of a code at a place
abbrev at_code : ℕ → List ℕ → List Bool → ℕ → Bool
at_code code codes mask i = get_or mask i false && (get_or codes i 0 == code)

joined : (kept rest more whole : ℤ) → whole ≡ rest +ℤ more → kept +ℤ whole ≡ (kept +ℤ rest) +ℤ more
joined kept rest more whole e = omega (arith, ints)

first : (kept : ℤ) → kept +ℤ pos 0 ≡ pos 0 +ℤ kept
first kept = omega (arith, ints)

-- the sum of a code, one place further
sum_more : (code : ℕ) (values : List ℤ) (codes : List ℕ) (mask : List Bool) (i : ℕ) → i < length values → i < length codes → i < length mask
    → masked_sum_of (take (suc i) values) (mask_of_code code (take (suc i) codes) (take (suc i) mask))
    ≡ masked_sum_of (take i values) (mask_of_code code (take i codes) (take i mask)) +ℤ kept_of (get_or values i (pos 0)) (at_code code codes mask i)
sum_more code [] codes mask i h k l = absurd (omega arith)
sum_more code (v ∷ values) [] mask i h k l = absurd (omega arith)
sum_more code (v ∷ values) (c ∷ codes) [] i h k l = absurd (omega arith)
sum_more code (v ∷ values) (c ∷ codes) (b ∷ mask) zero h k l = first (kept_of v (b && (c == code)))
sum_more code (v ∷ values) (c ∷ codes) (b ∷ mask) (suc i) h k l =
    joined (kept_of v (b && (c == code))) _ _ _ (sum_more code values codes mask i (omega arith) (omega arith) (omega arith))

or_nothing : (x : Bool) → (x || false) ≡ x
or_nothing true = refl
or_nothing false = refl

regrouped : (x y z : Bool) → (x || (y || z)) ≡ ((x || y) || z)
regrouped true y z = refl
regrouped false y z = refl

-- whether the mask is true at a code, one place further
mark_more : (code : ℕ) (codes : List ℕ) (mask : List Bool) (i : ℕ) → i < length codes → i < length mask
    → is_at_code code (take (suc i) codes) (take (suc i) mask) ≡ (is_at_code code (take i codes) (take i mask) || at_code code codes mask i)
mark_more code [] mask i k l = absurd (omega arith)
mark_more code (c ∷ codes) [] i k l = absurd (omega arith)
mark_more code (c ∷ codes) (b ∷ mask) zero k l = or_nothing (b && (c == code))
mark_more code (c ∷ codes) (b ∷ mask) (suc i) k l =
    ap (λ x. (b && (c == code)) || x) (mark_more code codes mask i (omega arith) (omega arith)) ∙ regrouped (b && (c == code)) (is_at_code code (take i codes) (take i mask)) (at_code code codes mask i)

and_true : (b : Bool) → (b && true) ≡ b
and_true true = refl
and_true false = refl

and_false : (b : Bool) → (b && false) ≡ false
and_false true = refl
and_false false = refl

-- at its own code the mask is as it is, at any other it is false
own_code : (code : ℕ) (codes : List ℕ) (mask : List Bool) (i : ℕ) → code ≡ get_or codes i 0 → at_code code codes mask i ≡ get_or mask i false
own_code code codes mask i is = let test : (get_or codes i 0 == code) ≡ true = grind (arith, nat_tests) in rw test (and_true (get_or mask i false))

other_code : (code : ℕ) (codes : List ℕ) (mask : List Bool) (i : ℕ) → code ≢ get_or codes i 0 → at_code code codes mask i ≡ false
other_code code codes mask i isnt = let test : (get_or codes i 0 == code) ≡ false = grind (arith, nat_tests) in rw test (and_false (get_or mask i false))

plus_nothing : (a : ℤ) → a +ℤ pos 0 ≡ a
plus_nothing a = omega (arith, ints)

grown : (sum old so_far kept all : ℤ) → sum ≡ old +ℤ so_far → all ≡ so_far +ℤ kept → sum +ℤ kept ≡ old +ℤ all
grown sum old so_far kept all e f = omega (arith, ints)

-- a value is added at its code
pub added_next : (values : List ℤ) (codes : List ℕ) (mask : List Bool) (old sums : List ℤ) (i : ℕ) (sum : ℤ) → i < length values → i < length codes → i < length mask → get_or codes i 0 < length old
    → sum ≡ get_or sums (get_or codes i 0) (pos 0) +ℤ kept_of (get_or values i (pos 0)) (get_or mask i false)
    → AddsByCode (take i values) (take i codes) (take i mask) old sums → AddsByCode (take (i + 1) values) (take (i + 1) codes) (take (i + 1) mask) old (set sums (get_or codes i 0) sum)
added_next values codes mask old sums i sum in_values in_codes in_mask within is so_far =
    let one_more : i + 1 ≡ suc i = omega arith in
    let place = get_or codes i 0 in
    record {
      same_length = length-set sums place sum ∙ so_far.same_length;
      each = rw one_more (λ code below.
          let more = sum_more code values codes mask i in_values in_codes in_mask in
          ⊎_elim
          (λ (same : code ≡ place).
          let here : get_or (set sums place sum) code (pos 0) ≡ sum = rw same (get_or-set_same sums place sum (pos 0) (rw so_far.same_length within)) in
          let kept : kept_of (get_or values i (pos 0)) (at_code code codes mask i) ≡ kept_of (get_or values i (pos 0)) (get_or mask i false) = ap (kept_of (get_or values i (pos 0))) (own_code code codes mask i same) in
          let before : get_or sums place (pos 0) ≡ get_or sums code (pos 0) = ap (λ k. get_or sums k (pos 0)) (sym same) in
          here ∙ is ∙ ap (λ z. z +ℤ kept_of (get_or values i (pos 0)) (get_or mask i false)) before
          ∙ grown (get_or sums code (pos 0)) (get_or old code (pos 0)) _ (kept_of (get_or values i (pos 0)) (get_or mask i false)) _ (so_far.each code below) (more ∙ ap (λ z. masked_sum_of (take i values) (mask_of_code code (take i codes) (take i mask)) +ℤ z) kept))
          (λ (other : code ≢ place).
          let none : kept_of (get_or values i (pos 0)) (at_code code codes mask i) ≡ pos 0 = ap (kept_of (get_or values i (pos 0))) (other_code code codes mask i other) in
          get_or-set_other sums place code sum (pos 0) other ∙ so_far.each code below
          ∙ ap (λ z. get_or old code (pos 0) +ℤ z) (sym (more ∙ ap (λ z. masked_sum_of (take i values) (mask_of_code code (take i codes) (take i mask)) +ℤ z) none ∙ plus_nothing _)))
          (cases_eq code place));
    }

-- what bounds each sum bounds it with one more value
pub near_next : (bound : ℕ → ℕ) (sums : List ℤ) (i place n : ℕ) (sum : ℤ) → length sums ≡ n → nat_abs sum ≤ nat_abs (get_or sums place (pos 0)) + 2 ^ 63 → place < n
    → ((code : ℕ) → code < n → nat_abs (get_or sums code (pos 0)) ≤ bound code + i * 2 ^ 63)
    → (code : ℕ) → code < n → nat_abs (get_or (set sums place sum) code (pos 0)) ≤ bound code + (i + 1) * 2 ^ 63
near_next bound sums i place n sum long grows within near code below =
    ⊎_elim
    (λ (same : code ≡ place).
    let before : nat_abs (get_or sums place (pos 0)) ≤ bound place + i * 2 ^ 63 = near place within in
    rw (same, get_or-set_same sums place sum (pos 0) (rw long within)) (omega arith))
    (λ (other : code ≢ place).
    let before : nat_abs (get_or sums code (pos 0)) ≤ bound code + i * 2 ^ 63 = near code below in
    rw (get_or-set_other sums place code sum (pos 0) other) (omega arith))
    (cases_eq code place)

-- a code is marked
pub marked_next : (codes : List ℕ) (mask old marks : List Bool) (i : ℕ) → i < length codes → i < length mask → get_or codes i 0 < length old
    → MarksByCode (take i codes) (take i mask) old marks → MarksByCode (take (i + 1) codes) (take (i + 1) mask) old (set marks (get_or codes i 0) (get_or marks (get_or codes i 0) false || get_or mask i false))
marked_next codes mask old marks i in_codes in_mask within so_far =
    let one_more : i + 1 ≡ suc i = omega arith in
    let place = get_or codes i 0 in
    let mark = get_or marks place false || get_or mask i false in
    record {
      same_length = length-set marks place mark ∙ so_far.same_length;
      each = rw one_more (λ code below.
          let more = mark_more code codes mask i in_codes in_mask in
          ⊎_elim
          (λ (same : code ≡ place).
          let here : get_or (set marks place mark) code false ≡ mark = rw same (get_or-set_same marks place mark false (rw so_far.same_length within)) in
          let before : get_or marks place false ≡ (get_or old code false || is_at_code code (take i codes) (take i mask)) = ap (λ k. get_or marks k false) (sym same) ∙ so_far.each code below in
          here ∙ ap (λ b. b || get_or mask i false) before
          ∙ sym (regrouped (get_or old code false) (is_at_code code (take i codes) (take i mask)) (get_or mask i false))
          ∙ ap (λ b. get_or old code false || b) (sym (more ∙ ap (λ b. is_at_code code (take i codes) (take i mask) || b) (own_code code codes mask i same))))
          (λ (other : code ≢ place).
          get_or-set_other marks place code mark false other ∙ so_far.each code below
          ∙ ap (λ b. get_or old code false || b) (sym (more ∙ ap (λ b. is_at_code code (take i codes) (take i mask) || b) (other_code code codes mask i other) ∙ or_nothing _)))
          (cases_eq code place));
    }

-- ---- a table of sums

-- what no row comes to
abbrev pub nothing : CodeSum
nothing = record { billed = pos 0; effective = pos 0; is_marked = false }

-- no sum of a column is further from what it was than so many values can take it
abbrev AreNear : (CodeSum → ℤ) → List CodeSum → List CodeSum → ℕ → Type 0
AreNear cost old sums i = (code : ℕ) → code < length old → nat_abs (get_or (map cost sums) code (pos 0)) ≤ nat_abs (get_or (map cost old) code (pos 0)) + i * 2 ^ 63

pub room_billed : (old sums : List CodeSum) (i place : ℕ) → place < length old → i ≤ 65536 → All HasRoom old → AreNear (λ s. s.billed) old sums i → nat_abs (get_or sums place nothing).billed ≤ 2 ^ 126 + 2 ^ 80
room_billed old sums i place within few room near =
    let own : nat_abs (get_or old place nothing).billed < 2 ^ 126 = (room place nothing within).billed in
    let here : nat_abs (get_or sums place nothing).billed ≤ nat_abs (get_or old place nothing).billed + i * 2 ^ 63 =
    rw (get_or-map (λ (s : CodeSum). s.billed) sums place nothing, get_or-map (λ (s : CodeSum). s.billed) old place nothing) at (near place within) in
    omega (arith, own, here, few)

pub room_effective : (old sums : List CodeSum) (i place : ℕ) → place < length old → i ≤ 65536 → All HasRoom old → AreNear (λ s. s.effective) old sums i → nat_abs (get_or sums place nothing).effective ≤ 2 ^ 126 + 2 ^ 80
room_effective old sums i place within few room near =
    let own : nat_abs (get_or old place nothing).effective < 2 ^ 126 = (room place nothing within).effective in
    let here : nat_abs (get_or sums place nothing).effective ≤ nat_abs (get_or old place nothing).effective + i * 2 ^ 63 =
    rw (get_or-map (λ (s : CodeSum). s.effective) sums place nothing, get_or-map (λ (s : CodeSum). s.effective) old place nothing) at (near place within) in
    omega (arith, own, here, few)

-- a row is added at its code, to the sums of one kind of cost
cost_next : (cost : CodeSum → ℤ) (values : List ℤ) (codes : List ℕ) (mask : List Bool) (old sums : List CodeSum) (i : ℕ) (new : CodeSum) → i < length values → i < length codes → i < length mask → get_or codes i 0 < length old
    → cost nothing ≡ pos 0 → cost new ≡ cost (get_or sums (get_or codes i 0) nothing) +ℤ kept_of (get_or values i (pos 0)) (get_or mask i false)
    → AddsByCode (take i values) (take i codes) (take i mask) (map cost old) (map cost sums) → AddsByCode (take (i + 1) values) (take (i + 1) codes) (take (i + 1) mask) (map cost old) (map cost (set sums (get_or codes i 0) new))
cost_next cost values codes mask old sums i new in_values in_codes in_mask within none is so_far =
    let place = get_or codes i 0 in
    let there : get_or (map cost sums) place (pos 0) ≡ cost (get_or sums place nothing) = ap (get_or (map cost sums) place) (sym none) ∙ get_or-map cost sums place nothing in
    subst (AddsByCode (take (i + 1) values) (take (i + 1) codes) (take (i + 1) mask) (map cost old)) (sym (map-set cost sums place new))
    (added_next values codes mask (map cost old) (map cost sums) i (cost new) in_values in_codes in_mask (rw (length-map old cost) within) (is ∙ ap (λ z. z +ℤ kept_of (get_or values i (pos 0)) (get_or mask i false)) (sym there)) so_far)

pub row_next : (billed effective : List ℤ) (codes : List ℕ) (mask : List Bool) (old sums : List CodeSum) (i : ℕ) (new : CodeSum) → i < length billed → i < length effective → i < length codes → i < length mask → get_or codes i 0 < length old
    → new.billed ≡ (get_or sums (get_or codes i 0) nothing).billed +ℤ kept_of (get_or billed i (pos 0)) (get_or mask i false)
    → new.effective ≡ (get_or sums (get_or codes i 0) nothing).effective +ℤ kept_of (get_or effective i (pos 0)) (get_or mask i false)
    → new.is_marked ≡ ((get_or sums (get_or codes i 0) nothing).is_marked || get_or mask i false)
    → AddsRows (take i billed) (take i effective) (take i codes) (take i mask) old sums
    → AddsRows (take (i + 1) billed) (take (i + 1) effective) (take (i + 1) codes) (take (i + 1) mask) old (set sums (get_or codes i 0) new)
row_next billed effective codes mask old sums i new in_billed in_effective in_codes in_mask within is_billed is_effective is_marked so_far =
    let place = get_or codes i 0 in
    let mark : (get_or (marks_of sums) place false || get_or mask i false) ≡ new.is_marked = ap (λ b. b || get_or mask i false) (get_or-map (λ (s : CodeSum). s.is_marked) sums place nothing) ∙ sym is_marked in
    record {
      billed_added = cost_next (λ s. s.billed) billed codes mask old sums i new in_billed in_codes in_mask within refl is_billed so_far.billed_added;
      effective_added = cost_next (λ s. s.effective) effective codes mask old sums i new in_effective in_codes in_mask within refl is_effective so_far.effective_added;
      marked = subst (MarksByCode (take (i + 1) codes) (take (i + 1) mask) (marks_of old)) (ap (set (marks_of sums) place) mark ∙ sym (map-set (λ (s : CodeSum). s.is_marked) sums place new))
          (marked_next codes mask (marks_of old) (marks_of sums) i in_codes in_mask (rw (length-map old (λ (s : CodeSum). s.is_marked)) within) so_far.marked);
    }

-- no sum has grown by more than the value
pub cost_near : (cost : CodeSum → ℤ) (old sums : List CodeSum) (i place : ℕ) (new : CodeSum) → length sums ≡ length old → cost nothing ≡ pos 0 → nat_abs (cost new) ≤ nat_abs (cost (get_or sums place nothing)) + 2 ^ 63 → place < length old
    → AreNear cost old sums i → AreNear cost old (set sums place new) (i + 1)
cost_near cost old sums i place new long none grows within near =
    let there : get_or (map cost sums) place (pos 0) ≡ cost (get_or sums place nothing) = ap (get_or (map cost sums) place) (sym none) ∙ get_or-map cost sums place nothing in
    subst (λ l. (code : ℕ) → code < length old → nat_abs (get_or l code (pos 0)) ≤ nat_abs (get_or (map cost old) code (pos 0)) + (i + 1) * 2 ^ 63) (sym (map-set cost sums place new))
    (near_next (λ code. nat_abs (get_or (map cost old) code (pos 0))) (map cost sums) i place (length old) (cost new) (length-map sums cost ∙ long) (rw there grows) within near)

zero_plus : (z : ℤ) → pos 0 +ℤ z ≡ z
zero_plus z = omega (arith, ints)

-- what is added to sums of 0 is the sum
pub sums_from_none : (values : List ℤ) (codes : List ℕ) (mask : List Bool) (count : ℕ) (sums : List ℤ) → AddsByCode values codes mask (replicate count (pos 0)) sums → AreSumsByCode values codes mask count sums
sums_from_none values codes mask count sums adds = record {
  many = adds.same_length ∙ length-replicate count (pos 0);
  each = λ code below.
      adds.each code (rw (length-replicate count (pos 0)) below) ∙ ap (λ z. z +ℤ masked_sum_of values (mask_of_code code codes mask)) (get_or-replicate count code (pos 0) (pos 0) below)
      ∙ zero_plus _;
}

-- what is marked where nothing was is what the mask marks
pub marks_from_none : (codes : List ℕ) (mask : List Bool) (count : ℕ) (marks : List Bool) → MarksByCode codes mask (replicate count false) marks → AreMarksByCode codes mask count marks
marks_from_none codes mask count marks adds = record {
  many = adds.same_length ∙ length-replicate count false;
  each = λ code below. adds.each code (rw (length-replicate count false) below) ∙ ap (λ b. b || is_at_code code codes mask) (get_or-replicate count code false false below);
}

column_of_same : {X : Type 0} (f : CodeSum → X) (count : ℕ) → map f (replicate count nothing) ≡ replicate count (f nothing)
column_of_same f zero = refl
column_of_same f (suc count) = ap (λ l. f nothing ∷ l) (column_of_same f count)

-- so of a table
pub rows_from_none : (billed effective : List ℤ) (codes : List ℕ) (mask : List Bool) (count : ℕ) (sums : List CodeSum) → length sums ≡ count → AddsRows billed effective codes mask (replicate count nothing) sums
    → AreRowSums billed effective codes mask count sums
rows_from_none billed effective codes mask count sums long adds = record {
  many = long;
  billed_sums = sums_from_none billed codes mask count (billed_of sums) (rw (column_of_same (λ (s : CodeSum). s.billed) count) at adds.billed_added);
  effective_sums = sums_from_none effective codes mask count (effective_of sums) (rw (column_of_same (λ (s : CodeSum). s.effective) count) at adds.effective_added);
  marks = marks_from_none codes mask count (marks_of sums) (rw (column_of_same (λ (s : CodeSum). s.is_marked) count) at adds.marked);
}

-- no sum is larger than the values can make it
pub small_from_none : (cost : CodeSum → ℤ) (count : ℕ) (sums : List CodeSum) → cost nothing ≡ pos 0 → length sums ≡ count
    → ((code : ℕ) → code < length (replicate count nothing) → nat_abs (get_or (map cost sums) code (pos 0)) ≤ nat_abs (get_or (map cost (replicate count nothing)) code (pos 0)) + 2 ^ 79)
    → All (λ sum. nat_abs sum ≤ 2 ^ 79) (map cost sums)
small_from_none cost count sums none long near = λ k d below.
    let within : k < count = (let h = below in omega (arith, h, length-map sums cost, long)) in
    let from : get_or (map cost (replicate count nothing)) k (pos 0) ≡ pos 0 =
    ap (get_or (map cost (replicate count nothing)) k) (sym none) ∙ get_or-map cost (replicate count nothing) k nothing ∙ ap cost (get_or-replicate count k nothing nothing within) ∙ none in
    let here : nat_abs (get_or (map cost sums) k (pos 0)) ≤ nat_abs (pos 0) + 2 ^ 79 = rw from at (near k (rw (length-replicate count nothing) within)) in
    rw (get_or_default (map cost sums) k d (pos 0) below) here
