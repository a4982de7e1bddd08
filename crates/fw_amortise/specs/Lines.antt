-- The lines of an hour. Below, `rows` are the rows of that hour alone, and a place is one in them or in the list of commitments.
use Rattle.std.specs.Prelude.{◌≡◌, ℕ, ◌-◌, ◌==◌, ◌&&◌, not, nat_lt, List, [], ◌∷◌, ◌++◌, map, filter, drop, length, Option, Some, None, option_and_then, if◌then◌else◌, pos, unsigned_abs, slice_get}
use Rattle.std.specs.Option.{option_map_or}
use Rattle.std.specs.List.{enumerate_from, flat_map, zip, AllZip}
use Rattle.fw_shares.specs.Shares.{IsShares}
use Rattle.fw_charge.specs.Charge.{Charge, DiscountText, hour_of}
use Rattle.fw_charge.specs.declared.category.Category.TheVariants as category
use Rattle.fw_charge.specs.declared.discount.DiscountStatus.{DiscountStatus}
use Rattle.fw_charge.specs.declared.discount.DiscountStatus.TheVariants as status
use Rattle.fw_terms.specs.Commitment.{CommitmentValue, PurchaseValue, kind_of, cost_of}
use Rattle.fw_cover.specs.declared.taken.Taken.{Taken}
use Rattle.fw_cover.specs.Eligible.{is_eligible, is_of_hour}
use Rattle.fw_cover.specs.Applies.{is_in_term}
use Rattle.fw_cover.specs.Order.{commitments_in_order}
use Rattle.fw_cover.specs.Part.{in_proportion}
use Rattle.fw_cover.specs.Hour.{hour_cover, takes_of, unused_of, left_of, quantity_of}
use Rattle.fw_amortise.specs.Amount.{amount_of}
use Rattle.fw_amortise.specs.LineValue.{LineValue}
use Rattle.fw_amortise.specs.declared.line.LineKind.TheVariants as kind

-- ---- what a commitment carries

-- what a commitment's purchases cost together, spread over the hours of its term; other hours carry nothing
unfoldable pub amount_in : CommitmentValue → ℕ → ℕ
amount_in c hour = if is_in_term c hour then amount_of (cost_of c.purchases) c.hours (hour - c.start) else 0

-- the weights that share an hour's amount: those of what the commitment took, in order, and last its unused capacity, where some is unused
unfoldable pub weights_of : List Taken → ℕ → List ℕ
weights_of takes unused = map (λ t. t.weight) takes ++ (if unused == 0 then [] else (unused ∷ []))

-- ---- single lines

-- the discount that a commitment's own line names
abbrev pub discount_by : CommitmentValue → Option DiscountStatus → DiscountText
discount_by c status = record { id = c.id; kind = kind_of c.terms; status = status }

-- a purchase of a commitment: billed in full, and of no effective cost, since the hours of the term carry it
unfoldable pub purchase_line : ℕ → CommitmentValue → PurchaseValue → LineValue
purchase_line hour c p = record {
  hour = hour;
  kind = kind.Purchase;
  category = category.Purchase;
  commitment = Some (discount_by c None);
  billed = pos p.billed;
  effective = pos 0;
  quantity = None;
  sku = None;
  sub_account = c.sub_account;
  tags = c.tags;
}

-- a row as it was given
unfoldable pub given_line : ℕ → Charge → LineValue
given_line hour row = record {
  hour = hour;
  kind = kind.Given;
  category = row.category;
  commitment = row.discount;
  billed = row.billed;
  effective = row.effective;
  quantity = row.quantity;
  sku = row.sku;
  sub_account = row.sub_account;
  tags = row.tags;
}

-- what a commitment took of a row: nothing is billed, and the effective cost is the share
unfoldable pub used_line : ℕ → CommitmentValue → List Charge → Taken → ℕ → LineValue
used_line hour c rows t share =
    let row = slice_get rows t.row in
    record {
      hour = hour;
      kind = kind.Used;
      category = category.Usage;
      commitment = Some (discount_by c (Some status.Used));
      billed = pos 0;
      effective = pos share;
      quantity = Some (pos t.quantity);
      sku = option_and_then (λ r. r.sku) row;
      sub_account = option_and_then (λ r. r.sub_account) row;
      tags = option_map_or (λ r. r.tags) row [];
    }

-- what a commitment left unused: nothing is billed, and the effective cost is the share
unfoldable pub unused_line : ℕ → CommitmentValue → ℕ → LineValue
unused_line hour c share = record {
  hour = hour;
  kind = kind.Unused;
  category = category.Usage;
  commitment = Some (discount_by c (Some status.Unused));
  billed = pos 0;
  effective = pos share;
  quantity = None;
  sku = None;
  sub_account = c.sub_account;
  tags = c.tags;
}

-- what is left of a row: its costs are in proportion to the quantity u that is left, rounded down, and its other fields stay
unfoldable pub rest_line : ℕ → Charge → ℕ → LineValue
rest_line hour row u = record {
  hour = hour;
  kind = kind.Rest;
  category = row.category;
  commitment = row.discount;
  billed = pos (in_proportion (unsigned_abs row.billed) (quantity_of row) u);
  effective = pos (in_proportion (unsigned_abs row.effective) (quantity_of row) u);
  quantity = Some (pos u);
  sku = row.sku;
  sub_account = row.sub_account;
  tags = row.tags;
}

-- ---- the lines of each kind, in order

-- the purchases whose second lies in the hour, by the order of the commitments and then of each one's purchases
unfoldable pub purchase_lines_of : ℕ → CommitmentValue → List LineValue
purchase_lines_of hour c = map (purchase_line hour c) (filter (λ p. hour_of p.at == hour) c.purchases)

unfoldable pub purchase_lines : List CommitmentValue → ℕ → List LineValue
purchase_lines cs hour = flat_map (purchase_lines_of hour) cs

-- the rows that no commitment may cover
unfoldable pub given_lines : List Charge → ℕ → List LineValue
given_lines rows hour = map (given_line hour) (filter (λ row. not (is_eligible row)) rows)

-- a line for each thing taken with its share, and then one for the share of the unused capacity, where there is one
unfoldable pub shared_lines : ℕ → CommitmentValue → List Charge → List Taken → List ℕ → List LineValue
shared_lines hour c rows takes shares =
    map (λ p. used_line hour c rows p.0 p.1) (zip takes shares) ++ map (unused_line hour c) (drop (length takes) shares)

-- the lines by which a commitment's amount of the hour is shared, by largest remainder, over what it took and what it left unused
pub record AreCommitmentLines (hour : ℕ) (c : CommitmentValue) (rows : List Charge) (takes : List Taken) (unused : ℕ) (lines : List LineValue) : Type 0 where
  pub shares : List ℕ
  pub are_shares : IsShares (amount_in c hour) (weights_of takes unused) shares
  pub are_lines : lines ≡ shared_lines hour c rows takes shares

-- the same for the commitment at a place
abbrev pub AreLinesAt : List CommitmentValue → List Charge → List Taken → ℕ → ℕ × CommitmentValue → List LineValue → Type 0
AreLinesAt cs rows taken hour c lines = AreCommitmentLines hour c.1 rows (takes_of c.0 taken) (unused_of cs taken c.0) lines

-- the commitments whose term has the hour, in their order, each beside its place
unfoldable pub running : List CommitmentValue → ℕ → List (ℕ × CommitmentValue)
running cs hour = filter (λ c. is_in_term c.1 hour) (commitments_in_order cs)

-- the line of what is left of a row: none where no commitment may cover the row, or nothing is left
unfoldable pub rest_of : ℕ → Charge → ℕ → List LineValue
rest_of hour row u = if is_eligible row && nat_lt 0 u then rest_line hour row u ∷ [] else []

-- what is left of the rows that commitments may cover, in the order of the rows
unfoldable pub rest_lines : List Charge → List Taken → ℕ → List LineValue
rest_lines rows taken hour = flat_map (λ r. rest_of hour r.1 (left_of rows taken r.0)) (enumerate_from 0 rows)

-- ---- the lines of an hour

-- the lines of an hour whose rows are these: the purchases, the rows that no commitment may cover, the lines of each commitment that runs,
-- and the rests; at most one list meets this, since at most one list are the shares
pub record AreHourLines (cs : List CommitmentValue) (rows : List Charge) (hour : ℕ) (lines : List LineValue) : Type 0 where
  pub shared : List (List LineValue)
  pub are_shared : AllZip (AreLinesAt cs rows (hour_cover cs rows hour) hour) (running cs hour) shared
  pub are_lines : lines ≡ purchase_lines cs hour ++ given_lines rows hour ++ flat_map (λ ls. ls) shared ++ rest_lines rows (hour_cover cs rows hour) hour

-- those of them that no row is or leaves: the purchases, and the lines of each commitment that runs
pub record AreOwnLines (cs : List CommitmentValue) (rows : List Charge) (hour : ℕ) (lines : List LineValue) : Type 0 where
  pub shared : List (List LineValue)
  pub are_shared : AllZip (AreLinesAt cs rows (hour_cover cs rows hour) hour) (running cs hour) shared
  pub are_lines : lines ≡ purchase_lines cs hour ++ flat_map (λ ls. ls) shared

-- the rows of an hour
unfoldable pub rows_in : ℕ → List Charge → List Charge
rows_in hour rows = filter (is_of_hour hour) rows

-- the lines of an hour, among rows of any hours
unfoldable pub AreLines : List CommitmentValue → List Charge → ℕ → List LineValue → Type 0
AreLines cs rows hour lines = AreHourLines cs (rows_in hour rows) hour lines
