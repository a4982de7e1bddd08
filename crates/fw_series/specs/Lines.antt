-- What is shown of a report.
use Rattle.std.specs.Prelude.{◌≡◌, ℕ, ℤ, Bool, true, false, not, List, [], ◌∷◌, ◌++◌, length, map, filter, Option, Some, None, String, string_bytes}
use Rattle.std.specs.Borrow.{Bor}
use Rattle.std.specs.List.{list_any}
use Rattle.std.specs.Str.{bytes_eq}
use Rattle.std.specs.declared.alloc.Global.{Global}
use Rattle.fw_allocate.specs.Costs.{total}
use Rattle.fw_query.specs.Reports.{EntryValue}
use Rattle.fw_series.specs.Sums.{AreSums}
use Rattle.fw_series.specs.declared.lines.Left.{Left}
use Rattle.fw_series.specs.declared.lines.Line.{Line}
use Rattle.fw_series.specs.declared.sums.Sums.{Sums}

-- names of groups, or all of them
abbrev pub Names : Type 0
Names = Option (Bor (List (String Global)))

-- whether a name is among names
abbrev pub has_name : List (String Global) → List ℕ → Bool
has_name names name = list_any (λ it. bytes_eq (string_bytes it) name) names

-- whether a group has a line of its own: where names are given, the groups of these names
abbrev pub is_shown : Names → List ℕ → Bool
is_shown None group = true
is_shown (Some names) group = has_name names.now group

abbrev pub is_kept : Names → EntryValue → Bool
is_kept names entry = is_shown names entry.group

abbrev pub is_left : Names → EntryValue → Bool
is_left names entry = not (is_shown names entry.group)

-- a line as a plain value
pub record LineValue : Type 0 where
  pub group : List ℕ
  pub is_others : Bool
  pub costs : Sums

abbrev pub line_value : Line → LineValue
line_value line = record { group = line.group.now; is_others = line.is_others; costs = line.costs }

-- the line of a group
abbrev pub group_line : EntryValue → LineValue
group_line entry = record { group = entry.group; is_others = false; costs = record { billed = entry.billed; direct = entry.direct; charged = entry.charged } }

-- the line of all others
abbrev pub others_line : Sums → LineValue
others_line sums = record { group = []; is_others = true; costs = sums }

-- the lines of the groups that have their own
abbrev pub kept : Names → List EntryValue → List LineValue
kept names entries = map group_line (filter (is_kept names) entries)

-- how many groups are left, and their sums
pub record IsLeft (entries : List EntryValue) (left : Left) : Type 0 where
  pub count : left.count ≡ length entries
  pub sums : AreSums entries left.sums

-- one line for what is left, where something is
abbrev pub AreOthers : List EntryValue → List LineValue → Type 0
AreOthers [] others = others ≡ []
AreOthers (entry ∷ entries) others = (sums : Sums) × AreSums (entry ∷ entries) sums × (others ≡ others_line sums ∷ [])

-- the lines of a report: of the groups that have their own, and of the others
pub record AreLines (names : Names) (entries : List EntryValue) (lines : List LineValue) : Type 0 where
  pub others : List LineValue
  pub lines_are : lines ≡ kept names entries ++ others
  pub others_are : AreOthers (filter (is_left names) entries) others

-- the sums of lines
abbrev pub billed_on : List LineValue → ℤ
billed_on lines = total (map (λ l. l.costs.billed) lines)

abbrev pub direct_on : List LineValue → ℤ
direct_on lines = total (map (λ l. l.costs.direct) lines)

abbrev pub charged_on : List LineValue → ℤ
charged_on lines = total (map (λ l. l.costs.charged) lines)
