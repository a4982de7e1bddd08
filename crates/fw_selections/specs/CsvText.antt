-- The text of selections as CSV.
use Rattle.std.specs.Prelude.{◌≡◌, ◌||◌, ℕ, ℤ, Bool, List, [], ◌∷◌, ◌++◌, length, map, codes, Option, Some, None, if◌then◌else◌}
use Rattle.std.specs.List.{AllZip, concat, flat_map}
use Rattle.std.specs.Option.{is_some}
use Rattle.fw_calendar.specs.Shown.{IsHourText}
use Rattle.fw_calendar.specs.declared.steps.Period.{Period}
use Rattle.fw_money.specs.Writing.{text_of}
use Rattle.fw_query.specs.Texts.{record_line}
use Rattle.fw_select.specs.Groups.{GroupCost}
use Rattle.fw_selections.specs.Shown.{RowValue}
use Rattle.fw_selections.specs.Written.{AreChosen, kind_word, parts_by, rows_in, sum_name, texts_under}
use Rattle.fw_selections.specs.declared.parts.SelectedPart.{SelectedPart}
use Rattle.fw_selections.specs.declared.parts.Selections.{Selections}
use Rattle.fw_selections.specs.declared.sheet.Sheet.{Sheet}

-- whether records have their hours and their kind in front: by period, or with the largest groups alone
abbrev pub has_hours : Sheet → Bool
has_hours sheet = is_some sheet.step || is_some sheet.top

-- fields of the hours and of the kind, where there are such
abbrev pub in_front : Bool → List ℕ → List ℕ → List ℕ → List (List ℕ)
in_front has from to kind = if has then from ∷ to ∷ kind ∷ [] else []

-- the field of a sum, where there is one
abbrev pub in_sum : Option (List ℕ) → List (List ℕ)
in_sum None = []
in_sum (Some text) = text ∷ []

-- the text of an amount, where a tag has amounts
abbrev pub sum_text : Option (List ℕ) → ℤ → Option (List ℕ)
sum_text None amount = None
sum_text (Some tag) amount = Some (text_of amount)

-- the names of the columns: those in front, the names of the keys in their order, those of the costs, and the tag whose amounts stand beside them
unfoldable pub header : Sheet → List (List ℕ)
header sheet =
    in_front (has_hours sheet) (codes "From") (codes "To") (codes "Kind")
    ++ (map (λ key. key.name.now) sheet.keys.now ++ codes "BilledCost" ∷ (codes "EffectiveCost" ∷ in_sum (sum_name sheet)))

-- the fields of a row, in the order of the columns: its hours as the texts `from` and `to`, its kind, its texts under the keys, its costs, and its amount
unfoldable pub fields_of : Sheet → List ℕ → List ℕ → RowValue → List (List ℕ)
fields_of sheet from to row =
    in_front (has_hours sheet) from to (kind_word row.texts)
    ++ (texts_under (length sheet.keys.now) row.texts ++ text_of row.costs.billed ∷ (text_of row.costs.effective ∷ in_sum (sum_text (sum_name sheet) row.costs.amount)))

-- a row beside its hours
pub record PlacedRow : Type 0 where
  pub hours : Period
  pub row : RowValue

-- the text is the record of a row
pub record IsRecord (sheet : Sheet) (placed : PlacedRow) (text : List ℕ) : Type 0 where
  pub from : List ℕ
  pub to : List ℕ
  pub from_is : IsHourText placed.hours.from from
  pub to_is : IsHourText placed.hours.to to
  pub text_is : text ≡ record_line (fields_of sheet from to placed.row)

-- the text is that of the records of rows, one after the other
pub record AreRecords (sheet : Sheet) (rows : List PlacedRow) (text : List ℕ) : Type 0 where
  pub records : List (List ℕ)
  pub each : AllZip (IsRecord sheet) rows records
  pub text_is : text ≡ concat records

-- rows beside their hours
abbrev pub placed : Period → List RowValue → List PlacedRow
placed hours rows = map (λ row. record { hours = hours; row = row }) rows

-- the rows of a part, each beside the hours of the part
abbrev pub part_rows : Sheet → (GroupCost → Bool) → SelectedPart → List PlacedRow
part_rows sheet chosen part = placed part.period (rows_in sheet.keys.now chosen part.selection)

-- the rows of all parts, part by part
abbrev pub placed_rows : Sheet → (GroupCost → Bool) → List SelectedPart → List PlacedRow
placed_rows sheet chosen parts = flat_map (part_rows sheet chosen) parts

-- the text is that of selections: a line of names, and the record of each row
pub record IsCsvText (selections : Selections) (sheet : Sheet) (text : List ℕ) : Type 0 where
  pub chosen : GroupCost → Bool
  pub are_chosen : AreChosen sheet.top selections.whole chosen
  pub records : List ℕ
  pub are_records : AreRecords sheet (placed_rows sheet chosen (parts_by sheet.step sheet.hours selections)) records
  pub text_is : text ≡ record_line (header sheet) ++ records
