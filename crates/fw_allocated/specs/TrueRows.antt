-- That each exported row is of the row of which its line is a part.
use Rattle.std.specs.Prelude.{◌≡◌, ℕ, List, Option, Some, None, slice_get}
use Rattle.std.specs.List.{AllZip}
use Rattle.fw_charge.specs.Charge.{Charge}
use Rattle.fw_terms.specs.Commitment.{CommitmentValue}
use Rattle.fw_amortise.specs.LineValue.{LineValue}
use Rattle.fw_amortise.specs.Lines.{AreHourLines, rows_in}
use Rattle.fw_amortise.specs.Sources.{ComesFrom, SourceValue}
use Rattle.fw_amortise.specs.Sources.SourceValue.{bought_by, row_given, row_left, unused_by, used_by}
use Rattle.fw_allocated.specs.Exported.{exported}

-- The row of a source: the one that was given, of which a commitment took something, or of which something is left. A purchase, and what a commitment
-- left unused, is of no row.
abbrev pub row_of : List Charge → SourceValue → Option Charge
row_of rows (bought_by place) = None
row_of rows (row_given row) = slice_get rows row
row_of rows (used_by place row) = slice_get rows row
row_of rows (unused_by place) = None
row_of rows (row_left row) = slice_get rows row

-- an exported row is part of a row: it has its tags, its period, its SKU, its sub-account, its unit and its class
pub record IsPartOf (row export : Charge) : Type 0 where
  pub tags : export.tags ≡ row.tags
  pub start : export.start ≡ row.start
  pub end : export.end ≡ row.end
  pub sku : export.sku ≡ row.sku
  pub sub_account : export.sub_account ≡ row.sub_account
  pub unit : export.unit ≡ row.unit
  pub is_correction : export.is_correction ≡ row.is_correction

-- a line comes from its source, is exported with the row of this source, and is part of this row where there is one
pub record IsOfTrueRow (cs : List CommitmentValue) (rows : List Charge) (hour : ℕ) (line : LineValue) (export : Charge) : Type 0 where
  pub source : SourceValue
  pub from : ComesFrom cs rows hour source line
  pub export_is : export ≡ exported (row_of rows source) line
  pub part : (row : Charge) → row_of rows source ≡ Some row → IsPartOf row export

-- exported rows are the lines of an hour, one for each, in their order, and each is of its true row; `rows` are the rows of the hour
pub record AreOfTrueRows (cs : List CommitmentValue) (rows : List Charge) (hour : ℕ) (exports : List Charge) : Type 0 where
  pub lines : List LineValue
  pub are_lines : AreHourLines cs rows hour lines
  pub each : AllZip (IsOfTrueRow cs rows hour) lines exports

-- the same, where `rows` are rows of any hours
abbrev pub AreOfTrueRowsAt : List CommitmentValue → List Charge → ℕ → List Charge → Type 0
AreOfTrueRowsAt cs rows hour exports = AreOfTrueRows cs (rows_in hour rows) hour exports
