-- Lines as they are added, one after the other. The private functions of the table cite it.
use Rattle.std.specs.Prelude.{◌≡◌, ◌++◌, ℕ, Bool, List, Option}
use Rattle.std.specs.List.{AllZip, flat_map}
use Rattle.fw_select.specs.Groups.{GroupCost}
use Rattle.fw_selections.specs.Shown.{RowValue}
use Rattle.fw_selections.specs.TableText.{AreCosts, ArePart, AreSumCells, IsRow, LineValue}
use Rattle.fw_selections.specs.Written.{AreChosen, parts_by}
use Rattle.fw_selections.specs.declared.parts.SelectedPart.{SelectedPart}
use Rattle.fw_selections.specs.declared.parts.Selections.{Selections}
use Rattle.fw_selections.specs.declared.rows.Costs.{Costs}
use Rattle.fw_selections.specs.declared.sheet.Sheet.{Sheet}

-- behind the cells that were there those of costs
pub record AddsCosts (old new : List (List ℕ)) (costs all : Costs) : Type 0 where
  pub texts : List (List ℕ)
  pub are_costs : AreCosts costs all texts
  pub added : new ≡ old ++ texts

-- behind the cells that were there that of the amount beside costs, where a tag has amounts
pub record AddsSum (old new : List (List ℕ)) (tag : Option (List ℕ)) (costs : Costs) : Type 0 where
  pub texts : List (List ℕ)
  pub are_sums : AreSumCells tag costs.amount texts
  pub added : new ≡ old ++ texts

-- behind the lines that were there those of rows
pub record AddsRows (old new : List LineValue) (sheet : Sheet) (period : List (List ℕ)) (all : Costs) (rows : List RowValue) : Type 0 where
  pub lines : List LineValue
  pub each : AllZip (IsRow sheet period all) rows lines
  pub added : new ≡ old ++ lines

-- behind the lines that were there those of a part
pub record AddsPart (old new : List LineValue) (sheet : Sheet) (chosen : GroupCost → Bool) (part : SelectedPart) : Type 0 where
  pub lines : List LineValue
  pub are_part : ArePart sheet chosen part lines
  pub added : new ≡ old ++ lines

-- behind the lines that were there those of parts
pub record AddsParts (old new : List LineValue) (sheet : Sheet) (chosen : GroupCost → Bool) (parts : List SelectedPart) : Type 0 where
  pub lines : List (List LineValue)
  pub each : AllZip (ArePart sheet chosen) parts lines
  pub added : new ≡ old ++ flat_map (λ part. part) lines

-- behind the lines that were there those of the parts of selections, with the groups that the sheet asks for
pub record AddsShown (old new : List LineValue) (selections : Selections) (sheet : Sheet) : Type 0 where
  pub chosen : GroupCost → Bool
  pub are_chosen : AreChosen sheet.top selections.whole chosen
  pub parts : AddsParts old new sheet chosen (parts_by sheet.step sheet.hours selections)
