-- The texts of members and items, as they are written one after the other. The private functions that write objects cite it.
use Rattle.std.specs.Prelude.{◌≡◌, ◌++◌, ◌∷◌, ℕ, zero, suc, Bool, List, [], map, Option}
use Rattle.std.specs.List.{AllZip, flat_map}
use Rattle.serde_json.specs.Data.{Data, string}
use Rattle.serde_json.specs.Written.{compact_text}
use Rattle.fw_calendar.specs.declared.steps.Period.{Period}
use Rattle.fw_calendar.specs.declared.steps.Step.{Step}
use Rattle.fw_select.specs.Groups.{GroupCost}
use Rattle.fw_selections.specs.JsonText.{AreHours, ArePeriods, Columns, IsPart, Member, asked_members, columns_of, selection_members}
use Rattle.fw_selections.specs.Written.{AreChosen}
use Rattle.fw_selections.specs.declared.parts.SelectedPart.{SelectedPart}
use Rattle.fw_selections.specs.declared.parts.Selections.{Selections}
use Rattle.fw_selections.specs.declared.sheet.Sheet.{Sheet}

-- a text as a string of JSON, quotes and all
abbrev pub quoted : List ℕ → List ℕ
quoted text = compact_text (string text)

-- texts, each with a comma in front
abbrev pub later : List (List ℕ) → List ℕ
later texts = flat_map (λ text. 44 ∷ text) texts

-- texts with a comma between them
abbrev pub listed : List (List ℕ) → List ℕ
listed [] = []
listed (text ∷ texts) = text ++ later texts

-- what stands before the text at a place
abbrev pub comma_at : ℕ → List ℕ
comma_at zero = []
comma_at (suc place) = 44 ∷ []

-- a member: its name as a string, a colon, and its value
abbrev pub member_text : Member → List ℕ
member_text m = quoted m.0 ++ 58 ∷ compact_text m.1

-- members with a comma between them
abbrev pub members_line : List Member → List ℕ
members_line ms = listed (map member_text ms)

abbrev pub later_members : List Member → List ℕ
later_members ms = later (map member_text ms)

-- after the text that was written the members of hours
pub record WritesHours (old new : List ℕ) (hours : Period) : Type 0 where
  pub members : List Member
  pub are_hours : AreHours hours members
  pub wrote : new ≡ old ++ members_line members

-- after the text that was written an opening brace, what was asked, the hours, and a comma
pub record WritesHead (old new : List ℕ) (sheet : Sheet) : Type 0 where
  pub hours : List Member
  pub are_hours : AreHours sheet.hours hours
  pub wrote : new ≡ old ++ (123 ∷ (members_line (asked_members sheet ++ hours) ++ 44 ∷ []))

-- after the text that was written the object of a period
pub record WritesPart (old new : List ℕ) (columns : Columns) (chosen : GroupCost → Bool) (part : SelectedPart) : Type 0 where
  pub object : Data
  pub is_part : IsPart columns chosen part object
  pub wrote : new ≡ old ++ compact_text object

-- after the text that was written the objects of periods
pub record WritesParts (old new : List ℕ) (columns : Columns) (chosen : GroupCost → Bool) (parts : List SelectedPart) : Type 0 where
  pub objects : List Data
  pub each : AllZip (IsPart columns chosen) parts objects
  pub wrote : new ≡ old ++ listed (map compact_text objects)

-- after the text that was written the members of the periods, each with a comma in front
pub record WritesPeriods (old new : List ℕ) (columns : Columns) (chosen : GroupCost → Bool) (step : Option Step) (parts : List SelectedPart) : Type 0 where
  pub members : List Member
  pub are_periods : ArePeriods columns chosen step parts members
  pub wrote : new ≡ old ++ later_members members

-- after the text that was written the members of selections, and of their periods
pub record WritesAll (old new : List ℕ) (selections : Selections) (sheet : Sheet) (chosen : GroupCost → Bool) : Type 0 where
  pub periods : List Member
  pub are_periods : ArePeriods (columns_of sheet) chosen sheet.step selections.parts.items periods
  pub wrote : new ≡ old ++ members_line (selection_members (columns_of sheet) chosen selections.whole ++ periods)

-- the same, where the groups are those that the sheet asks for
pub record WritesSelections (old new : List ℕ) (selections : Selections) (sheet : Sheet) : Type 0 where
  pub chosen : GroupCost → Bool
  pub are_chosen : AreChosen sheet.top selections.whole chosen
  pub all : WritesAll old new selections sheet chosen
