-- What the commitments cover of an hour's rows, and what is left of both.
use Rattle.std.specs.Prelude.{ℕ, ◌-◌, ◌==◌, List, map, filter, unwrap_or, pos, unsigned_abs, slice_index}
use Rattle.fw_charge.specs.Charge.{Charge}
use Rattle.fw_terms.specs.Commitment.{CommitmentValue}
use Rattle.fw_cover.specs.Order.{pairs_of}
use Rattle.fw_cover.specs.Cover.{cover_of, used_of, taken_of_row}
use Rattle.fw_cover.specs.declared.taken.Taken.{Taken}

-- the numbers that coverage works on, each at least 0 where a pair names the row; a row without a quantity has 0
abbrev pub quantity_of : Charge → ℕ
quantity_of row = unsigned_abs (unwrap_or row.quantity (pos 0))

abbrev pub billed_of : List Charge → List ℕ
billed_of rows = map (λ row. unsigned_abs row.billed) rows

abbrev pub quantities_of : List Charge → List ℕ
quantities_of rows = map quantity_of rows

abbrev pub capacities_of : List CommitmentValue → List ℕ
capacities_of cs = map (λ c. c.capacity) cs

-- what the commitments take of the rows of an hour, in the order of the pairs; rows of other hours are passed over
unfoldable pub hour_cover : List CommitmentValue → List Charge → ℕ → List Taken
hour_cover cs rows hour = cover_of (billed_of rows) (quantities_of rows) (capacities_of cs) (pairs_of cs rows hour)

-- what the commitment at a place took, in order
unfoldable pub takes_of : ℕ → List Taken → List Taken
takes_of place taken = filter (λ t. t.commitment == place) taken

-- the capacity of the commitment at a place that nothing used
unfoldable pub unused_of : List CommitmentValue → List Taken → ℕ → ℕ
unused_of cs taken place = slice_index (capacities_of cs) place - used_of place taken

-- the quantity of the row at a place that nothing took
unfoldable pub left_of : List Charge → List Taken → ℕ → ℕ
left_of rows taken place = slice_index (quantities_of rows) place - taken_of_row place taken
