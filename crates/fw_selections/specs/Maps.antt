-- What a TOML text reads as: its maps, or why it has none.
use Rattle.std.specs.Prelude.{◌≡◌, ◌<◌, ◌⊎◌, ℕ, zero, suc, Bool, false, List, [], ◌∷◌, length, take, All, Option, Some, None, Result, Ok, Err, String, Vec, codes, option_and_then, option_map, slice_get, string_bytes, unwrap_or, ⊤, if◌then◌else◌}
use Rattle.std.specs.BTreeMap.{BTreeMap, get_by_text}
use Rattle.std.specs.List.{AllZip}
use Rattle.std.specs.Option.{option_or}
use Rattle.std.specs.Str.{bytes_eq}
use Rattle.std.specs.declared.alloc.Global.{Global}
use Rattle.toml.specs.Data.{Data, Members, as_bool, as_str, boolean, get, string}
use Rattle.fw_rules.specs.Table.{FirstBroken, NoneBroken}
use Rattle.fw_toml.specs.Tree.{Anything, HasOnly, IsAbsentOr, IsArrayOf, IsTable, IsTableOf, IsText, IsThere, at, members_list, tables_of}
use Rattle.fw_select.specs.declared.key.Source.{Source}
use Rattle.fw_select.specs.declared.key.ValueMap.{ValueMap}
use Rattle.fw_selections.specs.Sources.{IsMapOf, IsNamed, IsOfAnother}
use Rattle.fw_selections.specs.declared.map_file.MapFault.{MapFault}
use Rattle.fw_selections.specs.declared.map_file.MapFault.TheVariants as fault
use Rattle.fw_selections.specs.declared.map_file.MapField.{MapField}
use Rattle.fw_selections.specs.declared.map_file.MapField.TheVariants as field
use Rattle.fw_selections.specs.declared.map_file.NamedMap.{NamedMap}

-- rules that a table is held against, in order: a field, and when it is wrong
abbrev pub Checks : Type 1
Checks = List (MapField × Type 0)

-- the value is `true` or `false`
unfoldable pub IsBoolean : Data → Type 0
IsBoolean d = (b : Bool) × (d ≡ boolean b)

-- texts, each under a name that isn't empty
unfoldable pub AreRenames : List (List ℕ × Data) → Type 0
AreRenames ms = All (λ m. (0 < length m.0) × IsText Anything m.1) ms

-- the fields of a map
abbrev pub map_fields : List (List ℕ)
map_fields = codes "key" ∷ (codes "fold" ∷ (codes "empty" ∷ (codes "values" ∷ [])))

-- The table of a map: `key` is a text that isn't empty; `fold` may be absent or is a truth value; `empty` may be absent or is a text; there is no other
-- field but `values`, which may be absent or is a table of texts, each under a name that isn't empty.
unfoldable pub map_checks : Members → Checks
map_checks ms =
    (field.Key, ¬ IsThere (at ms (codes "key")) (IsText (λ t. 0 < length t)))
    ∷ ((field.Fold, ¬ IsAbsentOr (at ms (codes "fold")) IsBoolean)
    ∷ ((field.Empty, ¬ IsAbsentOr (at ms (codes "empty")) (IsText Anything))
    ∷ ((field.Unknown, ¬ HasOnly map_fields ms)
    ∷ ((field.Values, ¬ IsAbsentOr (at ms (codes "values")) (IsTableOf (λ vs. AreRenames (members_list vs)))) ∷ []))))

-- whether letters are made small: where `fold` is true
abbrev pub fold_in : Option Data → Bool
fold_in value = unwrap_or (option_and_then as_bool value) false

-- what stands for the empty text: the text of `empty`, or the empty one itself
abbrev pub empty_in : Option Data → List ℕ
empty_in value = unwrap_or (option_and_then as_str value) []

-- what stands for a text: the text under it in `values`, where there is one
abbrev pub renamed_in : Option Data → List ℕ → Option (List ℕ)
renamed_in value text = option_and_then (λ d. option_and_then as_str (get text d)) value

-- each text has the one that `values` has for it
abbrev pub AreValues : Option Data → BTreeMap (String Global) (String Global) → Type 0
AreValues value values = (text : List ℕ) → option_map string_bytes (get_by_text values text) ≡ renamed_in value text

-- a table is that of a map
pub record StatesMap (ms : Members) (named : NamedMap) : Type 0 where
  pub key : at ms (codes "key") ≡ Some (string (string_bytes named.key))
  pub fold : named.map.fold ≡ fold_in (at ms (codes "fold"))
  pub empty : string_bytes named.map.empty ≡ empty_in (at ms (codes "empty"))
  pub values : AreValues (at ms (codes "values")) named.map.values
  pub unbroken : NoneBroken (map_checks ms)

-- a map is that of another source than each of some maps
pub record IsNew (maps : List NamedMap) (named : NamedMap) : Type 0 where
  pub source : Source
  pub is_its : IsNamed (string_bytes named.key) source
  pub each : (place : ℕ) (other : NamedMap) → slice_get maps place ≡ Some other → IsOfAnother other source

-- a map is that of the source of one of some maps
pub record IsDouble (maps : List NamedMap) (named : NamedMap) : Type 0 where
  pub source : Source
  pub is_its : IsNamed (string_bytes named.key) source
  pub map : ValueMap
  pub is_there : IsMapOf maps source map

-- tables are those of maps, each of another source than those before it
pub record StateMaps (tables : List Members) (maps : List NamedMap) : Type 0 where
  pub each : AllZip StatesMap tables maps
  pub apart : (place : ℕ) (named : NamedMap) → slice_get maps place ≡ Some named → IsNew (take place maps) named

-- The table at a place, counted from 1, is the first that isn't that of another map: a field of it is wrong, or its source is that of a map before it.
pub record IsWrongAt (tables : List Members) (wrong : MapField) (place : ℕ) : Type 0 where
  pub before : ℕ
  pub place_is : place ≡ suc before
  pub maps : List NamedMap
  pub are_maps : StateMaps (take before tables) maps
  pub table : Members
  pub is_there : slice_get tables before ≡ Some table
  pub is_wrong : FirstBroken (map_checks table) wrong ⊎ ((wrong ≡ field.Key) × ((named : NamedMap) × StatesMap table named × IsDouble maps named))

-- the tables `[[map]]` stand at the top, and nothing else
unfoldable pub top_checks : Members → Checks
top_checks ms =
    (field.Map, ¬ IsThere (at ms (codes "map")) (IsArrayOf (All (IsTableOf Anything))))
    ∷ ((field.Map, ¬ HasOnly (codes "map" ∷ []) ms) ∷ [])

-- what the table of a text reads as
pub record TableHasMaps (ms : Members) (maps : List NamedMap) : Type 0 where
  pub top : NoneBroken (top_checks ms)
  pub are_maps : StateMaps (tables_of (at ms (codes "map"))) maps

-- at the top, place 0, or in one of its tables a field is wrong
abbrev pub TableIsWrong : Members → MapField → ℕ → Type 0
TableIsWrong ms wrong place =
    (FirstBroken (top_checks ms) wrong × (place ≡ 0))
    ⊎ (NoneBroken (top_checks ms) × IsWrongAt (tables_of (at ms (codes "map"))) wrong place)

-- what a table reads as; running out of memory may come in place of any answer
abbrev pub TableReads : Members → Result (Vec NamedMap Global) MapFault → Type 0
TableReads ms (Ok maps) = TableHasMaps ms maps.items
TableReads ms (Err fault.Syntax) = ⊥
TableReads ms (Err (fault.Field wrong place)) = TableIsWrong ms wrong place
TableReads ms (Err fault.NoMemory) = ⊤

-- what a text reads as
abbrev pub MapsRead : List ℕ → Result (Vec NamedMap Global) MapFault → Type 0
MapsRead text (Ok maps) = (ms : Members) × IsTable text ms × TableHasMaps ms maps.items
MapsRead text (Err fault.Syntax) = (ms : Members) → ¬ IsTable text ms
MapsRead text (Err (fault.Field wrong place)) = (ms : Members) × IsTable text ms × TableIsWrong ms wrong place
MapsRead text (Err fault.NoMemory) = ⊤

-- what tables read as. The private functions of the reader cite it.
abbrev pub TablesRead : List Members → Result (Vec NamedMap Global) MapFault → Type 0
TablesRead tables (Ok maps) = StateMaps tables maps.items
TablesRead tables (Err fault.Syntax) = ⊥
TablesRead tables (Err (fault.Field wrong place)) = IsWrongAt tables wrong place
TablesRead tables (Err fault.NoMemory) = ⊤

-- the text beside a name, in the last pair that has it. The private functions of the reader cite it.
abbrev pub last_beside : List ℕ → List (List ℕ × List ℕ) → Option (List ℕ)
last_beside name [] = None
last_beside name (pair ∷ pairs) = option_or (last_beside name pairs) (if bytes_eq name pair.0 then Some pair.1 else None)

-- the first field of a table that is wrong, or none where memory ran out. The private functions of the reader cite it.
abbrev pub IsFieldFault : Members → Option MapField → Type 0
IsFieldFault ms None = ⊤
IsFieldFault ms (Some wrong) = FirstBroken (map_checks ms) wrong
