-- How well commitments were used in a range of hours.
use Rattle.std.specs.Prelude.{◌≡◌, ◌-◌, ◌&&◌, ℕ, ℤ, Bool, List, filter, if◌then◌else◌, map, sum_by}
use Rattle.std.specs.List.{enumerate_from, list_any, range_with_len}
use Rattle.std.specs.Str.{bytes_eq}
use Rattle.fw_charge.specs.Charge.{Charge}
use Rattle.fw_charge.specs.Codes.{status_word}
use Rattle.fw_charge.specs.declared.discount.DiscountStatus.{DiscountStatus}
use Rattle.fw_charge.specs.declared.discount.DiscountStatus.TheVariants as status
use Rattle.fw_terms.specs.Commitment.{CommitmentValue}
use Rattle.fw_cover.specs.Applies.{is_in_term}
use Rattle.fw_cover.specs.Hour.{hour_cover, unused_of}
use Rattle.fw_cover.specs.Cover.{used_of}
use Rattle.fw_amortise.specs.Carrying.{cost_of_all}
use Rattle.fw_amortise.specs.LineValue.{LineValue}
use Rattle.fw_amortise.specs.Lines.{rows_in}
use Rattle.fw_query.specs.Carried.{billed_by_all, shows_purchase_of}
use Rattle.fw_sums.specs.RangeLines.{AreRangeLines}
use Rattle.fw_query.specs.Texts.{id_text, status_text}

-- ---- what lines carry of a commitment, by what their text has

-- whether the text of a line has this CommitmentDiscountId
unfoldable pub shows_id : List ℕ → LineValue → Bool
shows_id id line = bytes_eq (id_text line.commitment) id

-- whether it has this CommitmentDiscountId and this CommitmentDiscountStatus
unfoldable pub shows_status : DiscountStatus → List ℕ → LineValue → Bool
shows_status status id line = bytes_eq (id_text line.commitment) id && bytes_eq (status_text line.commitment) (status_word status)

-- the EffectiveCost of the Used lines of the commitment with this id, and of its Unused lines
unfoldable pub used_cost : List ℕ → List LineValue → ℤ
used_cost id lines = cost_of_all (filter (shows_status status.Used id) lines)

unfoldable pub unused_cost : List ℕ → List LineValue → ℤ
unused_cost id lines = cost_of_all (filter (shows_status status.Unused id) lines)

-- the BilledCost of its purchases
unfoldable pub paid_cost : List ℕ → List LineValue → ℤ
paid_cost id lines = billed_by_all (filter (shows_purchase_of id) lines)

-- ---- what rows used of its capacity, in nanos of its unit, or of the currency where it is one to a cost

-- an amount of each hour of its term; other hours have nothing
unfoldable pub in_term : CommitmentValue → ℕ → ℕ → ℕ
in_term c hour amount = if is_in_term c hour then amount else 0

-- the capacity of the hours of a list that lie in its term
unfoldable pub capacity_of : CommitmentValue → List ℕ → ℕ
capacity_of c hours = sum_by (λ h. in_term c h c.capacity) hours

-- of the capacity of the commitment at a place what the rows of an hour used, and what nothing used
unfoldable pub used_in : List CommitmentValue → List Charge → ℕ × CommitmentValue → ℕ → ℕ
used_in cs rows c hour = in_term c.1 hour (used_of c.0 (hour_cover cs (rows_in hour rows) hour))

unfoldable pub unused_in : List CommitmentValue → List Charge → ℕ × CommitmentValue → ℕ → ℕ
unused_in cs rows c hour = in_term c.1 hour (unused_of cs (hour_cover cs (rows_in hour rows) hour) c.0)

-- ---- both

-- how well a commitment was used: its capacity, and what of it was used and left unused; what its Used and its Unused lines cost; and what was
-- paid for it
pub record CoverageValue : Type 0 where
  pub commitment : CommitmentValue
  pub capacity : ℕ
  pub used : ℕ
  pub unused : ℕ
  pub used_cost : ℤ
  pub unused_cost : ℤ
  pub paid : ℤ

-- how well the commitment at a place was used in the hours from `from` up to, and not including, `to`, whose lines are these
unfoldable pub coverage_of : List CommitmentValue → List Charge → List LineValue → ℕ → ℕ → ℕ × CommitmentValue → CoverageValue
coverage_of cs rows lines from to c = record {
  commitment = c.1;
  capacity = capacity_of c.1 (range_with_len from (to - from));
  used = sum_by (used_in cs rows c) (range_with_len from (to - from));
  unused = sum_by (unused_in cs rows c) (range_with_len from (to - from));
  used_cost = used_cost c.1.id lines;
  unused_cost = unused_cost c.1.id lines;
  paid = paid_cost c.1.id lines;
}

-- whether one of the lines has the id of a commitment
abbrev pub is_shown : List LineValue → ℕ × CommitmentValue → Bool
is_shown lines c = list_any (shows_id c.1.id) lines

-- the commitments that have a line in a range of hours, in their order, each with how well it was used there
pub record IsCoverage (cs : List CommitmentValue) (rows : List Charge) (from to : ℕ) (coverage : List CoverageValue) : Type 0 where
  pub lines : List LineValue
  pub are_lines : AreRangeLines cs rows from to lines
  pub coverage_is : coverage ≡ map (coverage_of cs rows lines from to) (filter (is_shown lines) (enumerate_from 0 cs))
