-- The lines of selections as a table.
use Rattle.std.specs.Prelude.{◌≡◌, ◌-◌, ◌==◌, ◌&&◌, not, ℕ, ℤ, zero, suc, Bool, true, false, List, [], ◌∷◌, ◌++◌, length, map, replicate, codes, Option, Some, None, option_and_then, option_map, slice_get, string_bytes, unwrap_or, if◌then◌else◌}
use Rattle.std.specs.List.{AllZip, flat_map, range_with_len}
use Rattle.std.specs.Option.{is_some}
use Rattle.fw_calendar.specs.Shown.{IsStepText}
use Rattle.fw_calendar.specs.declared.steps.Period.{Period}
use Rattle.fw_calendar.specs.declared.steps.Step.{Step}
use Rattle.fw_select.specs.Groups.{GroupCost}
use Rattle.fw_selections.specs.CsvText.{in_sum}
use Rattle.fw_selections.specs.Shown.{RowValue, costs_of}
use Rattle.fw_selections.specs.Written.{AreChosen, others_text, parts_by, rows_in, sum_name}
use Rattle.fw_selections.specs.declared.parts.SelectedPart.{SelectedPart}
use Rattle.fw_selections.specs.declared.parts.Selections.{Selections}
use Rattle.fw_selections.specs.declared.rows.Costs.{Costs}
use Rattle.fw_selections.specs.declared.sheet.KeyName.{KeyName}
use Rattle.fw_selections.specs.declared.sheet.Sheet.{Sheet}
use Rattle.fw_table.specs.Amounts.{IsCentsText}
use Rattle.fw_table.specs.Shares.{IsShareText}
use Rattle.fw_table.specs.declared.layout.Line.{Line}
use Rattle.fw_table.specs.declared.layout.Line.TheVariants as line

-- what a line of a table has: texts, one for each column, or dashes
pub data LineValue : Type 0 where
  cells : List (List ℕ) → LineValue
  rule : LineValue

abbrev pub line_value : Line → LineValue
line_value (line.Cells texts) = cells (map string_bytes texts.items)
line_value line.Rule = rule

-- what people see of a text of a key: the text, or what stands for the empty one
abbrev pub key_text : Bool → List ℕ → List ℕ
key_text is_tag [] = if is_tag then codes "(untagged)" else codes "(none)"
key_text is_tag (b ∷ text) = b ∷ text

-- what people see of a row of others under the key at a place: that it is of others, under the first
abbrev pub others_at : ℕ → List ℕ
others_at zero = others_text
others_at (suc place) = []

-- what people see of a row under the key at a place
abbrev pub shown_at : List KeyName → Option (List (List ℕ)) → ℕ → List ℕ
shown_at keys None place = others_at place
shown_at keys (Some texts) place =
    unwrap_or (option_and_then (λ text. option_map (λ key. key_text key.is_tag text) (slice_get keys place)) (slice_get texts place)) []

-- what people see of a row under keys, in their order
abbrev pub shown_under : List KeyName → Option (List (List ℕ)) → List (List ℕ)
shown_under keys texts = map (shown_at keys texts) (range_with_len 0 (length keys))

-- the cells of costs: both amounts in cents, and the share of the EffectiveCost in the one of all groups
pub record AreCosts (costs all : Costs) (texts : List (List ℕ)) : Type 0 where
  pub billed : List ℕ
  pub effective : List ℕ
  pub share : List ℕ
  pub billed_is : IsCentsText costs.billed billed
  pub effective_is : IsCentsText costs.effective effective
  pub share_is : IsShareText costs.effective all.effective share
  pub texts_are : texts ≡ billed ∷ (effective ∷ (share ∷ []))

-- the cell of the amount beside costs, in cents, where a tag has amounts
abbrev pub AreSumCells : Option (List ℕ) → ℤ → List (List ℕ) → Type 0
AreSumCells None amount texts = texts ≡ []
AreSumCells (Some tag) amount texts = (text : List ℕ) × IsCentsText amount text × (texts ≡ text ∷ [])

-- the cell of a period, where the range is cut
abbrev pub ArePeriod : Option Step → Period → List (List ℕ) → Type 0
ArePeriod None hours texts = texts ≡ []
ArePeriod (Some step) hours texts = (text : List ℕ) × IsStepText step hours.from text × (texts ≡ text ∷ [])

-- the line of a row: the cell of its period, what people see of its texts, its costs beside those of all groups, and its amount
pub record IsRow (sheet : Sheet) (period : List (List ℕ)) (all : Costs) (row : RowValue) (line : LineValue) : Type 0 where
  pub costs : List (List ℕ)
  pub are_costs : AreCosts row.costs all costs
  pub sums : List (List ℕ)
  pub are_sums : AreSumCells (sum_name sheet) row.costs.amount sums
  pub line_is : line ≡ cells (period ++ (shown_under sheet.keys.now row.texts ++ (costs ++ sums)))

-- the lines of a part: one for each of its rows
pub record ArePart (sheet : Sheet) (chosen : GroupCost → Bool) (part : SelectedPart) (lines : List LineValue) : Type 0 where
  pub period : List (List ℕ)
  pub are_period : ArePeriod sheet.step part.period period
  pub each : AllZip (IsRow sheet period (costs_of part.selection)) (rows_in sheet.keys.now chosen part.selection) lines

-- the names of the columns
abbrev pub heads : Sheet → List (List ℕ)
heads sheet =
    (if is_some sheet.step then codes "Period" ∷ [] else [])
    ++ (map (λ key. key.name.now) sheet.keys.now ++ codes "BilledCost" ∷ (codes "EffectiveCost" ∷ (codes "Share" ∷ in_sum (sum_name sheet))))

-- how many columns of texts stand behind the first
abbrev pub blanks : Sheet → ℕ
blanks sheet = if is_some sheet.step then length sheet.keys.now else length sheet.keys.now - 1

-- the line of the sums of the whole range
pub record IsTotal (sheet : Sheet) (groups : List GroupCost) (line : LineValue) : Type 0 where
  pub costs : List (List ℕ)
  pub are_costs : AreCosts (costs_of groups) (costs_of groups) costs
  pub sums : List (List ℕ)
  pub are_sums : AreSumCells (sum_name sheet) (costs_of groups).amount sums
  pub line_is : line ≡ cells (codes "Total" ∷ (replicate (blanks sheet) [] ++ (costs ++ sums)))

-- the lines of groups: the names of the columns, the lines of each part, and the sums of the whole range, with dashes between them
pub record AreGroupLines (selections : Selections) (sheet : Sheet) (lines : List LineValue) : Type 0 where
  pub chosen : GroupCost → Bool
  pub are_chosen : AreChosen sheet.top selections.whole chosen
  pub parts : List (List LineValue)
  pub each : AllZip (ArePart sheet chosen) (parts_by sheet.step sheet.hours selections) parts
  pub total : LineValue
  pub is_total : IsTotal sheet selections.whole total
  pub lines_are : lines ≡ cells (heads sheet) ∷ (rule ∷ (flat_map (λ part. part) parts ++ rule ∷ (total ∷ [])))

-- the line of costs alone, and of the amount beside them, where a tag has amounts
pub record IsCosts (tag : Option (List ℕ)) (costs : Costs) (line : LineValue) : Type 0 where
  pub billed : List ℕ
  pub effective : List ℕ
  pub sums : List (List ℕ)
  pub billed_is : IsCentsText costs.billed billed
  pub effective_is : IsCentsText costs.effective effective
  pub are_sums : AreSumCells tag costs.amount sums
  pub line_is : line ≡ cells (billed ∷ (effective ∷ sums))

-- the lines of costs alone
pub record AreSums (tag : Option (List ℕ)) (costs : Costs) (lines : List LineValue) : Type 0 where
  pub line : LineValue
  pub is_costs : IsCosts tag costs line
  pub lines_are : lines ≡ cells (codes "BilledCost" ∷ (codes "EffectiveCost" ∷ in_sum tag)) ∷ (rule ∷ (line ∷ []))

-- whether only sums are asked for: there is no key, and the range isn't cut
abbrev pub is_sums : Sheet → Bool
is_sums sheet = (length sheet.keys.now == 0) && not (is_some sheet.step)

-- the lines of a table
abbrev pub AreLines : Bool → Selections → Sheet → List LineValue → Type 0
AreLines true selections sheet lines = AreSums (sum_name sheet) (costs_of selections.whole) lines
AreLines false selections sheet lines = AreGroupLines selections sheet lines
