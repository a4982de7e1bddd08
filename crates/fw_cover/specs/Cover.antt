-- What pairs of a commitment and a row take: each takes its part of what the pairs before it left.
use Rattle.std.specs.Prelude.{Bool, ℕ, ◌-◌, ◌<◌, ◌≤◌, ◌^◌, ◌==◌, nat_lt, List, [], ◌∷◌, ◌++◌, fold, filter, sum_by, slice_index, if◌then◌else◌, length, IfSome}
use Rattle.fw_cover.specs.Part.{part_of}
use Rattle.fw_cover.specs.declared.pair.Pair.{Pair}
use Rattle.fw_cover.specs.declared.taken.Taken.{Taken}

-- the quantity of a row that was taken, and the capacity of a commitment that was used
unfoldable pub taken_of_row : ℕ → List Taken → ℕ
taken_of_row r done = sum_by (λ t. if t.row == r then t.quantity else 0) done

unfoldable pub used_of : ℕ → List Taken → ℕ
used_of c done = sum_by (λ t. if t.commitment == c then t.weight else 0) done

-- what a pair takes after the pairs before it; bs are the billed costs and qs the quantities of the rows, ks the capacities of the commitments
unfoldable pub taken_by : List ℕ → List ℕ → List ℕ → List Taken → Pair → Taken
taken_by bs qs ks done p =
    let u = slice_index qs p.row - taken_of_row p.row done in
    let left = slice_index ks p.commitment - used_of p.commitment done in
    let part = part_of p.rate (slice_index bs p.row) (slice_index qs p.row) u left in
    record { commitment = p.commitment; row = p.row; quantity = part.quantity; weight = part.weight }

-- what each pair takes, in the order of the pairs
unfoldable pub taken_by_all : List ℕ → List ℕ → List ℕ → List Pair → List Taken
taken_by_all bs qs ks ps = fold (λ done p. done ++ taken_by bs qs ks done p ∷ []) [] ps

abbrev pub takes_something : Taken → Bool
takes_something t = nat_lt 0 t.quantity

-- the pairs that take something
unfoldable pub cover_of : List ℕ → List ℕ → List ℕ → List Pair → List Taken
cover_of bs qs ks ps = filter takes_something (taken_by_all bs qs ks ps)

-- a pair names a commitment and a row that are there; the row's quantity is above 0, its numbers and the capacity are within the range of
-- nanos, and the rate is at most the whole cost
pub record IsPairWithin (bs qs ks : List ℕ) (p : Pair) : Type 0 where
  pub commitment : p.commitment < length ks
  pub row : p.row < length qs
  pub quantity : 0 < slice_index qs p.row
  pub quantity_most : slice_index qs p.row ≤ 10 ^ 17
  pub capacity_most : slice_index ks p.commitment ≤ 10 ^ 17
  pub billed : slice_index bs p.row ≤ 10 ^ 17
  pub rate : IfSome p.rate (λ rate. rate ≤ 1000000)

-- what was taken names a commitment and a row that are there, and its numbers are within the range of nanos
pub record IsTakeWithin (commitments rows : ℕ) (t : Taken) : Type 0 where
  pub commitment : t.commitment < commitments
  pub row : t.row < rows
  pub quantity : t.quantity ≤ 10 ^ 17
  pub weight : t.weight ≤ 10 ^ 17
