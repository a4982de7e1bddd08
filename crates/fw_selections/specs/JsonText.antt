-- The text of selections as JSON.
use Rattle.std.specs.Prelude.{◌≡◌, ℕ, ℤ, Bool, List, [], ◌∷◌, ◌++◌, length, map, codes, Option, Some, None}
use Rattle.std.specs.List.{AllZip, zip}
use Rattle.serde_json.specs.Data as json
use Rattle.serde_json.specs.Written.{compact_text}
use Rattle.fw_calendar.specs.Shown.{IsHourText}
use Rattle.fw_calendar.specs.declared.steps.Period.{Period}
use Rattle.fw_calendar.specs.declared.steps.Step.{Step}
use Rattle.fw_calendar.specs.declared.steps.Step.TheVariants.{Hour, Day, Month}
use Rattle.fw_money.specs.Writing.{text_of}
use Rattle.fw_select.specs.Groups.{GroupCost}
use Rattle.fw_selections.specs.Shown.{RowValue, costs_of}
use Rattle.fw_selections.specs.Written.{AreChosen, kind_word, shown_rows, sum_name, texts_under}
use Rattle.fw_selections.specs.declared.parts.SelectedPart.{SelectedPart}
use Rattle.fw_selections.specs.declared.parts.Selections.{Selections}
use Rattle.fw_selections.specs.declared.rows.Costs.{Costs}
use Rattle.fw_selections.specs.declared.sheet.Sheet.{Sheet}

-- a member of an object: its name, and its value
abbrev pub Member : Type 0
Member = List ℕ × json.Data

-- values, one after the other, as an array
abbrev pub items_of : List json.Data → json.Items
items_of [] = json.no_items
items_of (d ∷ ds) = json.item d (items_of ds)

-- members, one after the other, as an object has them
abbrev pub members_of : List Member → json.Members
members_of [] = json.no_members
members_of (m ∷ ms) = json.member m.0 m.1 (members_of ms)

abbrev pub array_of : List json.Data → json.Data
array_of ds = json.array (items_of ds)

abbrev pub object_of : List Member → json.Data
object_of ms = json.object (members_of ms)

-- what rows have: texts under the names of keys, and an amount under the name of a tag, where one's amounts stand beside the costs
pub record Columns : Type 0 where
  pub keys : List (List ℕ)
  pub tag : Option (List ℕ)

-- the sum of a tag's amounts under the name of the tag, as a text, exact to the nano
abbrev pub sum_members : Option (List ℕ) → ℤ → List Member
sum_members None amount = []
sum_members (Some tag) amount = (codes "sums", object_of ((tag, json.string (text_of amount)) ∷ [])) ∷ []

-- costs, each as a text, exact to the nano, and the amount beside them
abbrev pub costs_members : Option (List ℕ) → Costs → List Member
costs_members tag costs =
    (codes "billed", json.string (text_of costs.billed)) ∷ ((codes "effective", json.string (text_of costs.effective)) ∷ sum_members tag costs.amount)

-- the texts of a row, each under the name of its key
abbrev pub key_members : List (List ℕ) → Option (List (List ℕ)) → List Member
key_members names texts = map (λ m. (m.0, json.string m.1)) (zip names (texts_under (length names) texts))

-- the object of a row: its texts under the keys, whether it is of a group or of others, and its costs
abbrev pub row_object : Columns → RowValue → json.Data
row_object columns row =
    object_of ((codes "keys", object_of (key_members columns.keys row.texts)) ∷ ((codes "kind", json.string (kind_word row.texts)) ∷ costs_members columns.tag row.costs))

-- the rows of a selection: none without keys
abbrev pub keyed_rows : List (List ℕ) → (GroupCost → Bool) → List GroupCost → List RowValue
keyed_rows [] chosen groups = []
keyed_rows (name ∷ names) chosen groups = shown_rows chosen groups

-- the members of a selection: its rows, and the sums of all its groups
abbrev pub selection_members : Columns → (GroupCost → Bool) → List GroupCost → List Member
selection_members columns chosen groups =
    (codes "groups", array_of (map (row_object columns) (keyed_rows columns.keys chosen groups))) ∷ ((codes "total", object_of (costs_members columns.tag (costs_of groups))) ∷ [])

-- the members of hours: the texts of the first one, and of the one after the last
pub record AreHours (hours : Period) (members : List Member) : Type 0 where
  pub from : List ℕ
  pub to : List ℕ
  pub from_is : IsHourText hours.from from
  pub to_is : IsHourText hours.to to
  pub members_are : members ≡ (codes "from", json.string from) ∷ ((codes "to", json.string to) ∷ [])

-- the object of a period: its hours, and its selection
pub record IsPart (columns : Columns) (chosen : GroupCost → Bool) (part : SelectedPart) (object : json.Data) : Type 0 where
  pub hours : List Member
  pub are_hours : AreHours part.period hours
  pub object_is : object ≡ object_of (hours ++ selection_members columns chosen part.selection)

-- the word for a step
abbrev pub step_word : Step → List ℕ
step_word Hour = codes "hour"
step_word Day = codes "day"
step_word Month = codes "month"

-- the members of the periods, where the range is cut: what it is cut by, and the object of each
abbrev pub ArePeriods : Columns → (GroupCost → Bool) → Option Step → List SelectedPart → List Member → Type 0
ArePeriods columns chosen None parts members = members ≡ []
ArePeriods columns chosen (Some step) parts members =
    (objects : List json.Data) × AllZip (IsPart columns chosen) parts objects
    × (members ≡ (codes "by", json.string (step_word step)) ∷ ((codes "periods", array_of objects) ∷ []))

-- the names of the keys, in their order
abbrev pub key_names : Sheet → List (List ℕ)
key_names sheet = map (λ key. key.name.now) sheet.keys.now

-- the columns of a sheet
abbrev pub columns_of : Sheet → Columns
columns_of sheet = record { keys = key_names sheet; tag = sum_name sheet }

-- the members that say what was asked: the names of the keys, and the currency
abbrev pub asked_members : Sheet → List Member
asked_members sheet = (codes "keys", array_of (map json.string (key_names sheet))) ∷ ((codes "currency", json.string sheet.currency.now) ∷ [])

-- The text is that of selections: one object, without a space, ended by a line feed. It has what was asked, the hours, the selection of the whole range,
-- and the periods.
pub record IsJsonText (selections : Selections) (sheet : Sheet) (text : List ℕ) : Type 0 where
  pub chosen : GroupCost → Bool
  pub are_chosen : AreChosen sheet.top selections.whole chosen
  pub hours : List Member
  pub are_hours : AreHours sheet.hours hours
  pub periods : List Member
  pub are_periods : ArePeriods (columns_of sheet) chosen sheet.step selections.parts.items periods
  pub text_is : text ≡ compact_text (object_of (asked_members sheet ++ (hours ++ (selection_members (columns_of sheet) chosen selections.whole ++ periods)))) ++ 10 ∷ []
