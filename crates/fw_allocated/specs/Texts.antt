-- The text of rows, as CSV and as JSON lines.
use Rattle.std.specs.Prelude.{◌≡◌, ℕ, List, [], ◌∷◌, ◌++◌, Option, codes, map, unwrap_or}
use Rattle.std.specs.List.{AllZip, concat}
use Rattle.fw_charge.specs.Charge.{Charge}
use Rattle.fw_charge.specs.Tags.{TagText}
use Rattle.fw_query.specs.Texts.{record_line}
use Rattle.fw_allocated.specs.Cells.{cells_of, column_names, tags_text}
use Rattle.fw_allocated.specs.Instants.{IsSecondText}
use Rattle.fw_allocated.specs.Objects.{json_row}
use Rattle.fw_allocated.specs.declared.format.ExportFormat.{ExportFormat}
use Rattle.fw_allocated.specs.declared.format.ExportFormat.TheVariants as format

-- what is null is an empty field
abbrev pub field_of : Option (List ℕ) → List ℕ
field_of cell = unwrap_or cell []

-- the record of a row in a CSV: its cells, and its tags as JSON
unfoldable pub csv_row : List (Option (List ℕ)) → List TagText → List ℕ
csv_row cells tags = record_line (map field_of cells ++ tags_text tags ∷ [])

-- a row in a format
abbrev pub row_text : ExportFormat → List (Option (List ℕ)) → List TagText → List ℕ
row_text format.Csv cells tags = csv_row cells tags
row_text format.JsonLines cells tags = json_row cells tags

-- what stands in front of all rows: the record of the names in a CSV, and nothing before JSON lines
unfoldable pub head_text : ExportFormat → List ℕ
head_text format.Csv = record_line (column_names ++ codes "Tags" ∷ [])
head_text format.JsonLines = []

-- the text is that of a row
pub record IsRowText (format : ExportFormat) (currency : List ℕ) (row : Charge) (text : List ℕ) : Type 0 where
  pub start : List ℕ
  pub end : List ℕ
  pub start_is : IsSecondText row.start start
  pub end_is : IsSecondText row.end end
  pub text_is : text ≡ row_text format (cells_of currency row start end) row.tags

-- the text is that of rows, one after the other
pub record AreRowTexts (format : ExportFormat) (currency : List ℕ) (rows : List Charge) (text : List ℕ) : Type 0 where
  pub texts : List (List ℕ)
  pub each : AllZip (IsRowText format currency) rows texts
  pub text_is : text ≡ concat texts
