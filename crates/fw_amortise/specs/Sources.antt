-- Where the lines of an hour come from, and that each row is accounted for.
use Rattle.std.specs.Prelude.{◌≡◌, ◌<◌, ◌==◌, ℕ, ℤ, pos, ◌+ℤ◌, Bool, true, false, List, [], ◌∷◌, fold, map, filter, All, Contains, Some, slice_get, unwrap_or, MatchBool}
use Rattle.fw_charge.specs.Charge.{Charge, hour_of}
use Rattle.fw_terms.specs.Commitment.{CommitmentValue, PurchaseValue}
use Rattle.fw_cover.specs.declared.taken.Taken.{Taken}
use Rattle.fw_cover.specs.Applies.{is_in_term}
use Rattle.fw_cover.specs.Eligible.{is_eligible}
use Rattle.fw_cover.specs.Hour.{hour_cover, left_of, takes_of, unused_of}
use Rattle.fw_cover.specs.Meeting.{Meets}
use Rattle.fw_amortise.specs.LineValue.{LineValue}
use Rattle.fw_amortise.specs.Lines.{AreCommitmentLines, purchase_line, purchase_lines_of, given_line, used_line, unused_line, rest_line, rest_of}

-- where a line comes from: a purchase of a commitment; a row, as it was given; what a commitment took of a row; what a commitment left unused; what
-- is left of a row. Commitments and rows are named by their places
pub data SourceValue : Type 0 where
  bought_by : ℕ → SourceValue
  row_given : ℕ → SourceValue
  used_by : ℕ → ℕ → SourceValue
  unused_by : ℕ → SourceValue
  row_left : ℕ → SourceValue

-- the line of a purchase, in the hour, of the commitment at a place
pub record IsPurchaseOf (cs : List CommitmentValue) (hour place : ℕ) (line : LineValue) : Type 0 where
  pub commitment : CommitmentValue
  pub purchase : PurchaseValue
  pub at_place : slice_get cs place ≡ Some commitment
  pub bought : Contains commitment.purchases purchase
  pub in_hour : hour_of purchase.at ≡ hour
  pub line_is : line ≡ purchase_line hour commitment purchase

-- the row at a place, which no commitment may cover, as it was given
pub record IsRowGiven (rows : List Charge) (hour row : ℕ) (line : LineValue) : Type 0 where
  pub charge : Charge
  pub at_row : slice_get rows row ≡ Some charge
  pub not_eligible : is_eligible charge ≡ false
  pub line_is : line ≡ given_line hour charge

-- what the commitment at a place took of the row at a place, which it applies to
pub record IsUseOf (cs : List CommitmentValue) (rows : List Charge) (hour place row : ℕ) (line : LineValue) : Type 0 where
  pub meets : Meets cs rows hour place row
  pub take : Taken
  pub share : ℕ
  pub taken : Contains (takes_of place (hour_cover cs rows hour)) take
  pub of_row : take.row ≡ row
  pub line_is : line ≡ used_line hour meets.commitment rows take share

-- what the commitment at a place, whose term has the hour, left unused, where it is anything
pub record IsUnusedOf (cs : List CommitmentValue) (rows : List Charge) (hour place : ℕ) (line : LineValue) : Type 0 where
  pub commitment : CommitmentValue
  pub share : ℕ
  pub at_place : slice_get cs place ≡ Some commitment
  pub runs : is_in_term commitment hour ≡ true
  pub some : 0 < unused_of cs (hour_cover cs rows hour) place
  pub line_is : line ≡ unused_line hour commitment share

-- what is left of the row at a place, which commitments may cover, where it is anything
pub record IsRestOf (cs : List CommitmentValue) (rows : List Charge) (hour row : ℕ) (line : LineValue) : Type 0 where
  pub charge : Charge
  pub left : ℕ
  pub at_row : slice_get rows row ≡ Some charge
  pub eligible : is_eligible charge ≡ true
  pub left_is : left ≡ left_of rows (hour_cover cs rows hour) row
  pub some : 0 < left
  pub line_is : line ≡ rest_line hour charge left

-- a line comes from its source
abbrev pub ComesFrom : List CommitmentValue → List Charge → ℕ → SourceValue → LineValue → Type 0
ComesFrom cs rows hour (bought_by place) line = IsPurchaseOf cs hour place line
ComesFrom cs rows hour (row_given row) line = IsRowGiven rows hour row line
ComesFrom cs rows hour (used_by place row) line = IsUseOf cs rows hour place row line
ComesFrom cs rows hour (unused_by place) line = IsUnusedOf cs rows hour place line
ComesFrom cs rows hour (row_left row) line = IsRestOf cs rows hour row line

-- whether a source is the row at a place, or a part of it
abbrev pub is_of_row : ℕ → SourceValue → Bool
is_of_row r (bought_by place) = false
is_of_row r (row_given row) = row == r
is_of_row r (used_by place row) = row == r
is_of_row r (unused_by place) = false
is_of_row r (row_left row) = row == r

-- whether a source is a purchase of the commitment at a place
abbrev pub is_bought_by : ℕ → SourceValue → Bool
is_bought_by c (bought_by place) = place == c
is_bought_by c (row_given row) = false
is_bought_by c (used_by place row) = false
is_bought_by c (unused_by place) = false
is_bought_by c (row_left row) = false

-- whether a source is what the commitment at a place took of a row, or what it left unused
abbrev pub is_share_by : ℕ → SourceValue → Bool
is_share_by c (bought_by place) = false
is_share_by c (row_given row) = false
is_share_by c (used_by place row) = place == c
is_share_by c (unused_by place) = place == c
is_share_by c (row_left row) = false

-- whether a source is what the commitment at a place left unused
abbrev pub is_unused_by : ℕ → SourceValue → Bool
is_unused_by c (bought_by place) = false
is_unused_by c (row_given row) = false
is_unused_by c (used_by place row) = false
is_unused_by c (unused_by place) = place == c
is_unused_by c (row_left row) = false

-- whether a source is what is left of the row at a place
abbrev pub is_rest_of : ℕ → SourceValue → Bool
is_rest_of r (bought_by place) = false
is_rest_of r (row_given row) = false
is_rest_of r (used_by place row) = false
is_rest_of r (unused_by place) = false
is_rest_of r (row_left row) = row == r

-- the lines whose source passes a test, where beside each line stands its source
unfoldable pub lines_from : (SourceValue → Bool) → List (SourceValue × LineValue) → List LineValue
lines_from test sourced = map (λ s. s.1) (filter (λ s. test s.0) sourced)

-- the lines that come from the row at a place
abbrev pub lines_of_row : ℕ → List (SourceValue × LineValue) → List LineValue
lines_of_row r sourced = lines_from (is_of_row r) sourced

-- the lines of purchases of the commitment at a place
abbrev pub lines_bought_by : ℕ → List (SourceValue × LineValue) → List LineValue
lines_bought_by c sourced = lines_from (is_bought_by c) sourced

-- the sum of the quantities of lines; a line without one has 0
unfoldable pub quantity_of_all : List LineValue → ℤ
quantity_of_all lines = fold ◌+ℤ◌ (pos 0) (map (λ line. unwrap_or line.quantity (pos 0)) lines)

-- a row is accounted for by its lines: where commitments may cover it, their quantities sum to its quantity; else it is one line, as it was given
abbrev pub IsAccounted : ℕ → Charge → List LineValue → Type 0
IsAccounted hour row own = MatchBool (is_eligible row) (row.quantity ≡ Some (quantity_of_all own)) (own ≡ given_line hour row ∷ [])

-- each line comes from one purchase, one row, or one commitment; each row is accounted for by the lines that come from it, and what is left of it by
-- one of them; the amount of each commitment that runs is shared by the lines of what it took and of what it left unused; and of each commitment
-- each purchase of the hour is one line
pub record AreAccounted (cs : List CommitmentValue) (rows : List Charge) (hour : ℕ) (lines : List LineValue) : Type 0 where
  pub sourced : List (SourceValue × LineValue)
  pub lines_are : lines ≡ map (λ s. s.1) sourced
  pub each : All (λ s. ComesFrom cs rows hour s.0 s.1) sourced
  pub rows_are : (r : ℕ) (row : Charge) → slice_get rows r ≡ Some row → IsAccounted hour row (lines_of_row r sourced)
  pub rests_are : (r : ℕ) (row : Charge) → slice_get rows r ≡ Some row → lines_from (is_rest_of r) sourced ≡ rest_of hour row (left_of rows (hour_cover cs rows hour) r)
  pub shares_are : (place : ℕ) (c : CommitmentValue) → slice_get cs place ≡ Some c → is_in_term c hour ≡ true
      → AreCommitmentLines hour c rows (takes_of place (hour_cover cs rows hour)) (unused_of cs (hour_cover cs rows hour) place) (lines_from (is_share_by place) sourced)
  pub purchases_are : (place : ℕ) (c : CommitmentValue) → slice_get cs place ≡ Some c → lines_bought_by place sourced ≡ purchase_lines_of hour c
