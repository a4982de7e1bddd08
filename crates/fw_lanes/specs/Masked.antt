-- Masks, and sums under a mask and by code.
use Rattle.std.specs.Prelude.{◌≡◌, ℕ, ◌<◌, ◌^◌, ◌==◌, nat_lt, int_le, int_lt, ℤ, pos, ◌+ℤ◌, Bool, false, ◌&&◌, ◌||◌, List, [], ◌∷◌, length, map, nat_abs, slice_index_or, if◌then◌else◌}
use Rattle.std.specs.Int.{bit_at}
use Rattle.std.specs.List.{list_any}
use Rattle.std.specs.Simd.Lanes.{zip2}
use Rattle.fw_lanes.specs.declared.by_code.CodeSum.{CodeSum}

-- the most places of a mask
abbrev pub most_places : ℕ
most_places = 65536

-- whether a value is at least a bound and less than another
abbrev pub is_between : ℤ → ℤ → ℤ → Bool
is_between low high value = int_le low value && int_lt value high

-- whether a number is in a set of numbers below 64: those whose bit is 1 in a word
abbrev pub is_in_set : ℕ → ℕ → Bool
is_in_set set number = nat_lt number 64 && (bit_at set number == 1)

-- the value where the mask is true, 0 elsewhere
abbrev pub kept_of : ℤ → Bool → ℤ
kept_of value is_set = if is_set then value else pos 0

-- the sum of the values at whose places the mask is true
abbrev pub masked_sum_of : List ℤ → List Bool → ℤ
masked_sum_of [] mask = pos 0
masked_sum_of (value ∷ values) [] = pos 0
masked_sum_of (value ∷ values) (is_set ∷ mask) = kept_of value is_set +ℤ masked_sum_of values mask

-- the mask that is true where a mask is and the code is this one
abbrev pub mask_of_code : ℕ → List ℕ → List Bool → List Bool
mask_of_code code codes mask = zip2 (λ c is_set. is_set && (c == code)) codes mask

-- whether a mask is true at some place with the code
abbrev pub is_at_code : ℕ → List ℕ → List Bool → Bool
is_at_code code codes mask = list_any (λ is_set. is_set) (mask_of_code code codes mask)

-- to the sum of each code its values were added at which the mask is true
pub record AddsByCode (values : List ℤ) (codes : List ℕ) (mask : List Bool) (old new : List ℤ) : Type 0 where
  pub same_length : length new ≡ length old
  pub each : (code : ℕ) → code < length old → slice_index_or new code (pos 0) ≡ slice_index_or old code (pos 0) +ℤ masked_sum_of values (mask_of_code code codes mask)

-- the codes at which the mask is true are marked, and those that were before
pub record MarksByCode (codes : List ℕ) (mask : List Bool) (old new : List Bool) : Type 0 where
  pub same_length : length new ≡ length old
  pub each : (code : ℕ) → code < length old → slice_index_or new code false ≡ (slice_index_or old code false || is_at_code code codes mask)

-- the sums of the codes below a count
pub record AreSumsByCode (values : List ℤ) (codes : List ℕ) (mask : List Bool) (count : ℕ) (sums : List ℤ) : Type 0 where
  pub many : length sums ≡ count
  pub each : (code : ℕ) → code < count → slice_index_or sums code (pos 0) ≡ masked_sum_of values (mask_of_code code codes mask)

-- for each of the codes below a count whether the mask is true at it
pub record AreMarksByCode (codes : List ℕ) (mask : List Bool) (count : ℕ) (marks : List Bool) : Type 0 where
  pub many : length marks ≡ count
  pub each : (code : ℕ) → code < count → slice_index_or marks code false ≡ is_at_code code codes mask

-- the columns of a table of sums
abbrev pub billed_of : List CodeSum → List ℤ
billed_of sums = map (λ s. s.billed) sums

abbrev pub effective_of : List CodeSum → List ℤ
effective_of sums = map (λ s. s.effective) sums

abbrev pub marks_of : List CodeSum → List Bool
marks_of sums = map (λ s. s.is_marked) sums

-- the sums can grow by those of the rows of a mask
pub record HasRoom (sum : CodeSum) : Type 0 where
  pub billed : nat_abs sum.billed < 2 ^ 126
  pub effective : nat_abs sum.effective < 2 ^ 126

-- to the sums of each code the costs of its rows were added at which the mask is true, and their codes were marked
pub record AddsRows (billed effective : List ℤ) (codes : List ℕ) (mask : List Bool) (old new : List CodeSum) : Type 0 where
  pub billed_added : AddsByCode billed codes mask (billed_of old) (billed_of new)
  pub effective_added : AddsByCode effective codes mask (effective_of old) (effective_of new)
  pub marked : MarksByCode codes mask (marks_of old) (marks_of new)

-- the sums of the rows at which the mask is true, for each of the codes below a count, and which codes have such rows
pub record AreRowSums (billed effective : List ℤ) (codes : List ℕ) (mask : List Bool) (count : ℕ) (sums : List CodeSum) : Type 0 where
  pub many : length sums ≡ count
  pub billed_sums : AreSumsByCode billed codes mask count (billed_of sums)
  pub effective_sums : AreSumsByCode effective codes mask count (effective_of sums)
  pub marks : AreMarksByCode codes mask count (marks_of sums)
