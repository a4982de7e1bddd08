-- What is written of selections: which rows, and what a row has under its keys.
use Rattle.std.specs.Prelude.{◌≡◌, not, ℕ, true, Bool, List, [], ◌∷◌, ◌++◌, filter, map, codes, Option, Some, None, option_copied, slice_get, unwrap_or}
use Rattle.std.specs.List.{list_any, range_with_len}
use Rattle.std.specs.Borrow.{Bor}
use Rattle.fw_calendar.specs.declared.steps.Period.{Period}
use Rattle.fw_calendar.specs.declared.steps.Step.{Step}
use Rattle.fw_select.specs.Groups.{GroupCost, is_same}
use Rattle.fw_selections.specs.Shown.{AreLargest, RowValue, costs_of, others_row, own_row}
use Rattle.fw_selections.specs.declared.parts.SelectedPart.{SelectedPart}
use Rattle.fw_selections.specs.declared.parts.Selections.{Selections}
use Rattle.fw_selections.specs.declared.sheet.KeyName.{KeyName}
use Rattle.fw_selections.specs.declared.sheet.Sheet.{Sheet}

-- which groups have a row of their own: all of them, or those that are the largest of the whole range
abbrev pub AreChosen : Option ℕ → List GroupCost → (GroupCost → Bool) → Type 0
AreChosen None whole chosen = (group : GroupCost) → chosen group ≡ true
AreChosen (Some count) whole chosen =
    (largest : List (Bor GroupCost)) × AreLargest count whole largest
    × ((group : GroupCost) → chosen group ≡ list_any (λ other. is_same other.now.group group.group) largest)

-- the rows of groups: one for each that is chosen, in their order, and behind them one for all others, where there are some
abbrev pub shown_rows : (GroupCost → Bool) → List GroupCost → List RowValue
shown_rows chosen groups = map own_row (filter chosen groups) ++ others_row (filter (λ g. not (chosen g)) groups)

-- the one row of a selection without keys, with all costs
abbrev pub whole_row : List GroupCost → RowValue
whole_row groups = record { texts = Some []; costs = costs_of groups }

-- the rows of a selection: without keys the one with all costs
abbrev pub rows_in : List KeyName → (GroupCost → Bool) → List GroupCost → List RowValue
rows_in [] chosen groups = whole_row groups ∷ []
rows_in (key ∷ keys) chosen groups = shown_rows chosen groups

-- what is written one after the other: the whole range where it isn't cut, or else each of its periods
abbrev pub parts_by : Option Step → Period → Selections → List SelectedPart
parts_by None hours selections = (record { period = hours; selection = selections.whole }) ∷ []
parts_by (Some step) hours selections = selections.parts.items

-- the tag whose amounts stand beside the costs, where one's do
abbrev pub sum_name : Sheet → Option (List ℕ)
sum_name sheet = option_copied sheet.sum

-- what stands for the groups that have no row of their own
abbrev pub others_text : List ℕ
others_text = codes "(others)"

-- whether a row is of a group or of others, in a word
abbrev pub kind_word : Option (List (List ℕ)) → List ℕ
kind_word None = codes "others"
kind_word (Some texts) = codes "group"

-- the text of a row under the key at a place
abbrev pub text_at : Option (List (List ℕ)) → ℕ → List ℕ
text_at None place = others_text
text_at (Some texts) place = unwrap_or (slice_get texts place) []

-- the texts of a row under so many keys, in their order
abbrev pub texts_under : ℕ → Option (List (List ℕ)) → List (List ℕ)
texts_under keys texts = map (text_at texts) (range_with_len 0 keys)
