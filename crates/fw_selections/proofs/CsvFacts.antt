-- Lemmas on the records of rows.
use Rattle.std.proofs.Common.{◌≡◌, ◌∙◌, ◌+◌, ◌<◌, ℕ, Bool, List, [], ◌∷◌, ◌++◌, None, Some, Vec, append-nil, append_assoc, get_or, length, map, refl, subst, sym, take, ap}
use Rattle.std.proofs.lemmas.Grind.{flat_map-append}
use Rattle.std.proofs.lemmas.List.{map-append, take_more}
use Rattle.std.proofs.lemmas.List.Folds.{concat-append}
use Rattle.std.specs.List.{concat}
use Rattle.std.specs.declared.alloc.Global.{Global}
use Rattle.csv.specs.declared.writer.Writer.{Writer}
use Rattle.fw_calendar.specs.declared.steps.Period.{Period}
use Rattle.fw_calendar.specs.declared.steps.Step.{Step}
use Rattle.fw_query.specs.Writers.{HasWritten}
use Rattle.fw_select.specs.Groups.{GroupCost}
use Rattle.fw_selections.specs.CsvText.{AreRecords, IsRecord, PlacedRow, part_rows, placed, placed_rows}
use Rattle.fw_selections.specs.Shown.{RowValue, row_value}
use Rattle.fw_selections.specs.Writing.{WritesRecords}
use Rattle.fw_selections.specs.Written.{parts_by}
use Rattle.fw_selections.specs.declared.parts.SelectedPart.{SelectedPart}
use Rattle.fw_selections.specs.declared.parts.Selections.{Selections}
use Rattle.fw_selections.specs.declared.rows.Row.{Row}
use Rattle.fw_selections.specs.declared.sheet.Sheet.{Sheet}
use Rattle.fw_selections.proofs.RowFacts.{values_more, zip_append}

-- ---- records

records_none : (sheet : Sheet) → AreRecords sheet [] []
records_none sheet = record { records = []; each = tt; text_is = refl }

pub one_record : (sheet : Sheet) (row : PlacedRow) (text : List ℕ) → IsRecord sheet row text → AreRecords sheet (row ∷ []) text
one_record sheet row text is = record { records = text ∷ []; each = (is, tt); text_is = sym (append-nil text) }

records_append : (sheet : Sheet) (rows more : List PlacedRow) (text other : List ℕ) → AreRecords sheet rows text → AreRecords sheet more other → AreRecords sheet (rows ++ more) (text ++ other)
records_append sheet rows more text other a b = record {
  records = a.records ++ b.records;
  each = zip_append (IsRecord sheet) rows more a.records b.records a.each b.each;
  text_is = ap (λ t. t ++ other) a.text_is ∙ ap (λ t. concat a.records ++ t) b.text_is ∙ sym (concat-append a.records b.records);
}

-- ---- what a writer has written

pub writes_none : (writer : Writer (Vec ℕ Global)) (text : List ℕ) (sheet : Sheet) → HasWritten writer text → WritesRecords writer text sheet []
writes_none writer text sheet has = record { added = []; are_records = records_none sheet; wrote = subst (HasWritten writer) (sym (append-nil text)) has }

pub writes_more : (old new : Writer (Vec ℕ Global)) (text : List ℕ) (sheet : Sheet) (rows more : List PlacedRow) → (before : WritesRecords old text sheet rows)
    → WritesRecords new (text ++ before.added) sheet more → WritesRecords new text sheet (rows ++ more)
writes_more old new text sheet rows more before next = record {
  added = before.added ++ next.added;
  are_records = records_append sheet rows more before.added next.added before.are_records next.are_records;
  wrote = subst (HasWritten new) (append_assoc text before.added next.added) next.wrote;
}

-- ---- one more

pub parts_more : (sheet : Sheet) (chosen : GroupCost → Bool) (parts : List SelectedPart) (i : ℕ) (part : SelectedPart) → i < length parts → part ≡ get_or parts i part
    → placed_rows sheet chosen (take (i + 1) parts) ≡ placed_rows sheet chosen (take i parts) ++ part_rows sheet chosen part
parts_more sheet chosen parts i part below is =
    ap (placed_rows sheet chosen) (take_more parts i part below ∙ ap (λ p. take i parts ++ p ∷ []) (sym is))
    ∙ flat_map-append (part_rows sheet chosen) (take i parts) (part ∷ [])
    ∙ ap (λ t. placed_rows sheet chosen (take i parts) ++ t) (append-nil (part_rows sheet chosen part))

pub rows_more : (hours : Period) (rows : List Row) (i : ℕ) (row : Row) → i < length rows → row ≡ get_or rows i row
    → placed hours (map row_value (take (i + 1) rows)) ≡ placed hours (map row_value (take i rows)) ++ placed hours (row_value row ∷ [])
rows_more hours rows i row below is =
    ap (placed hours) (values_more rows i row below is) ∙ map-append (λ (r : RowValue). record { hours = hours; row = r }) (map row_value (take i rows)) (row_value row ∷ [])

-- ---- parts

-- the rows of the whole range are those of its one part
pub uncut : (sheet : Sheet) (chosen : GroupCost → Bool) (selections : Selections) → sheet.step ≡ None
    → part_rows sheet chosen (record { period = sheet.hours; selection = selections.whole }) ≡ placed_rows sheet chosen (parts_by sheet.step sheet.hours selections)
uncut sheet chosen selections none =
    sym (append-nil (part_rows sheet chosen (record { period = sheet.hours; selection = selections.whole })))
    ∙ ap (λ step. placed_rows sheet chosen (parts_by step sheet.hours selections)) (sym none)

-- the rows of the periods are those of the parts
pub cut : (sheet : Sheet) (chosen : GroupCost → Bool) (selections : Selections) (step : Step) (parts : List SelectedPart) → sheet.step ≡ Some step → parts ≡ selections.parts.items
    → placed_rows sheet chosen parts ≡ placed_rows sheet chosen (parts_by sheet.step sheet.hours selections)
cut sheet chosen selections step parts some are = ap (placed_rows sheet chosen) are ∙ ap (λ s. placed_rows sheet chosen (parts_by s sheet.hours selections)) (sym some)
