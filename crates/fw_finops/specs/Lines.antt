-- Lines at the rows' own prices: what commitments took of an hour's rows, and what they could have taken.
use Rattle.std.specs.Prelude.{ℕ, ◌-◌, ◌&&◌, not, Bool, true, false, is_none, List, [], ◌∷◌, ◌++◌, map, filter, max, Option, Some, None, is_some, pos, slice_get, if◌then◌else◌}
use Rattle.std.specs.List.{flat_map, list_any}
use Rattle.std.specs.Option.{option_map_or}
use Rattle.std.specs.Str.{bytes_eq}
use Rattle.fw_charge.specs.Charge.{Charge}
use Rattle.fw_charge.specs.declared.category.Category.TheVariants as category
use Rattle.fw_charge.specs.declared.discount.DiscountStatus.TheVariants as status
use Rattle.fw_terms.specs.Commitment.{CommitmentValue}
use Rattle.fw_cover.specs.Applies.{applied}
use Rattle.fw_cover.specs.Hour.{hour_cover, left_of}
use Rattle.fw_cover.specs.declared.taken.Taken.{Taken}
use Rattle.fw_amortise.specs.LineValue.{LineValue}
use Rattle.fw_amortise.specs.Lines.{discount_by, given_line}
use Rattle.fw_amortise.specs.declared.line.LineKind.TheVariants as kind
use Rattle.fw_finops.specs.Prices.{taken_cost}
use Rattle.fw_finops.specs.Usable.{usable}

-- ---- what was taken

-- what a commitment took of a row of which so much was left before: a used line, at the row's own price. A line has no capacity: what was used of the
-- commitment's stands as BilledCost, so that sums of it say how much that is
unfoldable pub covered_line : ℕ → CommitmentValue → Charge → Taken → ℕ → LineValue
covered_line hour c row t before = record {
  hour = hour;
  kind = kind.Used;
  category = category.Usage;
  commitment = Some (discount_by c (Some status.Used));
  billed = pos t.weight;
  effective = pos (taken_cost row.effective row before (before - t.quantity));
  quantity = Some (pos t.quantity);
  sku = row.sku;
  sub_account = row.sub_account;
  tags = row.tags;
}

-- the line of a take, where its commitment and its row are there
abbrev pub covered_by : ℕ → Option CommitmentValue → Option Charge → Taken → ℕ → List LineValue
covered_by hour None row t before = []
covered_by hour (Some c) None t before = []
covered_by hour (Some c) (Some row) t before = covered_line hour c row t before ∷ []

-- the lines of takes, one after another, where others were taken before them
abbrev pub covered_after : List CommitmentValue → List Charge → ℕ → List Taken → List Taken → List LineValue
covered_after cs rows hour done [] = []
covered_after cs rows hour done (t ∷ ts) =
    covered_by hour (slice_get cs t.commitment) (slice_get rows t.row) t (left_of rows done t.row) ++ covered_after cs rows hour (done ++ t ∷ []) ts

-- the lines of what the commitments took of the rows of an hour
unfoldable pub covered_lines : List CommitmentValue → List Charge → ℕ → List LineValue
covered_lines cs rows hour = covered_after cs rows hour [] (hour_cover cs rows hour)

-- ---- what could have been taken

-- whether a commitment applies to a row of an hour
unfoldable pub applies : ℕ → Charge → CommitmentValue → Bool
applies hour row c = is_some (applied c hour row)

-- a row that a commitment could have taken, beside the commitment: what the row could have used of its capacity stands as BilledCost
unfoldable pub eligible_line : ℕ → Charge → CommitmentValue → LineValue
eligible_line hour row c =
    record (given_line hour row) { kind = kind.Rest; commitment = Some (discount_by c None); billed = pos (usable hour row c) }

-- whether a line is of a row beside the commitment with an id
abbrev pub is_beside : List ℕ → LineValue → Bool
is_beside id line = option_map_or (λ d. bytes_eq d.id id && is_none d.status) line.commitment false

-- whether a commitment that applies at a rate, or at none, counts the cost of the row; or else its quantity
abbrev pub counts_at : Bool → Option (Option ℕ) → Bool
counts_at cost None = false
counts_at cost (Some None) = not cost
counts_at cost (Some (Some rate)) = cost

-- whether a commitment counts the cost of a row of an hour, or its quantity; neither, where it doesn't apply
unfoldable pub counts : ℕ → Charge → Bool → CommitmentValue → Bool
counts hour row cost c = counts_at cost (applied c hour row)

-- the most that a row could have used of one of some commitments
abbrev pub most_usable : ℕ → Charge → List CommitmentValue → ℕ
most_usable hour row [] = 0
most_usable hour row (c ∷ cs) = max (usable hour row c) (most_usable hour row cs)

-- the first of commitments, where there is one already; else the next
abbrev pub first_or : Option CommitmentValue → CommitmentValue → Option CommitmentValue
first_or None next = Some next
first_or (Some first) next = Some first

-- a row that a commitment counts, and so much as BilledCost. The status tells these lines from those beside a commitment
unfoldable pub unit_line : ℕ → Charge → CommitmentValue → ℕ → LineValue
unit_line hour row c most = record (given_line hour row) { kind = kind.Rest; commitment = Some (discount_by c (Some status.Unused)); billed = pos most }

-- a row once, where some commitments count it: with the first of them, whose unit is that of all, and the most that the row could have used of one
abbrev pub most_of : ℕ → Charge → List CommitmentValue → List LineValue
most_of hour row [] = []
most_of hour row (c ∷ cs) = unit_line hour row c (most_usable hour row (c ∷ cs)) ∷ []

-- the same of the commitments that count its quantity, all in its unit, and of those that count its cost, all in the currency
unfoldable pub unit_lines_of : List CommitmentValue → ℕ → Charge → List LineValue
unit_lines_of cs hour row = most_of hour row (filter (counts hour row false) cs) ++ most_of hour row (filter (counts hour row true) cs)

-- a row that some commitment could have taken
unfoldable pub coverable_line : ℕ → Charge → LineValue
coverable_line hour row = record (given_line hour row) { kind = kind.Rest }

-- the lines of a row: beside each commitment that applies to it, once in each unit, and by itself where one applies
unfoldable pub eligible_of : List CommitmentValue → ℕ → Charge → List LineValue
eligible_of cs hour row = map (eligible_line hour row) (filter (applies hour row) cs)

unfoldable pub coverable_of : List CommitmentValue → ℕ → Charge → List LineValue
coverable_of cs hour row = if list_any (applies hour row) cs then coverable_line hour row ∷ [] else []

unfoldable pub open_lines_of : List CommitmentValue → ℕ → Charge → List LineValue
open_lines_of cs hour row = eligible_of cs hour row ++ (unit_lines_of cs hour row ++ coverable_of cs hour row)

unfoldable pub open_lines : List CommitmentValue → List Charge → ℕ → List LineValue
open_lines cs rows hour = flat_map (open_lines_of cs hour) rows

-- ---- both

-- the lines of an hour at the rows' own prices
unfoldable pub price_lines : List CommitmentValue → List Charge → ℕ → List LineValue
price_lines cs rows hour = covered_lines cs rows hour ++ open_lines cs rows hour
