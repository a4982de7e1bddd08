-- What a TOML document states: the table of a text, and what its values are, kind by kind.
use Rattle.std.specs.Prelude.{◌≡◌, ℕ, ℤ, List, [], ◌∷◌, map, Option, Some, None, true, IsUtf8, String}
use Rattle.std.specs.BTreeMap.{BTreeMap}
use Rattle.std.specs.List.{All, Contains}
use Rattle.std.specs.declared.alloc.Global.{Global}
use Rattle.toml.specs.Data.{Data, Items, Members, string, integer, boolean, array, table, no_items, item, no_members, member, get_member}
use Rattle.toml.specs.Parse.{parse_document}
use Rattle.toml.specs.View.{table_view}
use Rattle.toml.specs.declared.value.Value.{Value}

-- the members that a table holds
abbrev pub stated : BTreeMap (String Global) Value → Members
stated t = table_view t

-- the table of a text
unfoldable pub IsTable : List ℕ → Members → Type 0
IsTable text ms = IsUtf8 text × (parse_document text ≡ Some ms)

-- the value under a name
unfoldable pub at : Members → List ℕ → Option Data
at ms name = get_member name ms

-- the members of a table, each as its name and its value, in byte order of the names
abbrev pub members_list : Members → List (List ℕ × Data)
members_list no_members = []
members_list (member name d ms) = (name, d) ∷ members_list ms

-- the items of an array, in order
abbrev pub items_list : Items → List Data
items_list no_items = []
items_list (item d ds) = d ∷ items_list ds

-- a value is there, and P holds of it
unfoldable pub IsThere : Option Data → (Data → Type 0) → Type 0
IsThere None P = ⊥
IsThere (Some d) P = P d

-- no value is there, or P holds of it
unfoldable pub IsAbsentOr : Option Data → (Data → Type 0) → Type 0
IsAbsentOr None P = Unit {0}
IsAbsentOr (Some d) P = P d

-- what holds of each
unfoldable pub Anything : {X : Type 0} → X → Type 0
Anything x = Unit {0}

-- the value is a text, and P holds of the text
unfoldable pub IsText : (List ℕ → Type 0) → Data → Type 0
IsText P d = (t : List ℕ) × (d ≡ string t) × P t

-- the value is an integer, and P holds of it
unfoldable pub IsInteger : (ℤ → Type 0) → Data → Type 0
IsInteger P d = (z : ℤ) × (d ≡ integer z) × P z

-- the value is a table, and P holds of its members
unfoldable pub IsTableOf : (Members → Type 0) → Data → Type 0
IsTableOf P d = (ms : Members) × (d ≡ table ms) × P ms

-- the value is an array, and P holds of its items
unfoldable pub IsArrayOf : (List Data → Type 0) → Data → Type 0
IsArrayOf P d = (ds : Items) × (d ≡ array ds) × P (items_list ds)

-- the value `true`
abbrev pub truth : Data
truth = boolean true

-- each name in a table is one of these
unfoldable pub HasOnly : List (List ℕ) → Members → Type 0
HasOnly names ms = All (λ m. Contains names m.0) (members_list ms)

-- the value is an array of these texts
unfoldable pub AreTexts : List (List ℕ) → Data → Type 0
AreTexts ts = IsArrayOf (λ ds. ds ≡ map string ts)

-- the value is an array of these tables
unfoldable pub AreTables : List Members → Data → Type 0
AreTables ts = IsArrayOf (λ ds. ds ≡ map table ts)

-- a name beside an integer or a text, as a member
abbrev pub integer_member : List ℕ × ℤ → List ℕ × Data
integer_member z = (z.0, integer z.1)

abbrev pub text_member : List ℕ × List ℕ → List ℕ × Data
text_member t = (t.0, string t.1)

-- the value is a table of these integers, each beside its name
unfoldable pub AreIntegers : List (List ℕ × ℤ) → Data → Type 0
AreIntegers zs = IsTableOf (λ ms. members_list ms ≡ map integer_member zs)

-- the value is a table of these texts, each beside its name
unfoldable pub AreNamedTexts : List (List ℕ × List ℕ) → Data → Type 0
AreNamedTexts ts = IsTableOf (λ ms. members_list ms ≡ map text_member ts)

-- the tables among some values, in order
abbrev pub tables_among : List Data → List Members
tables_among [] = []
tables_among (table ms ∷ ds) = ms ∷ tables_among ds
tables_among (d ∷ ds) = tables_among ds

abbrev pub tables_in : Data → List Members
tables_in (array ds) = tables_among (items_list ds)
tables_in d = []

-- the tables of an array of tables, in order; no value has none
unfoldable pub tables_of : Option Data → List Members
tables_of None = []
tables_of (Some d) = tables_in d
