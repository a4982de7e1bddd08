-- Sums by group as they are kept while lines are read. The private functions of the table cite it.
use Rattle.std.specs.Prelude.{◌≡◌, ℕ, Bool, ◌+ℤ◌, List, map, Option, Some, None, option_map, slice_get, String, string_bytes, Vec, if◌then◌else◌}
use Rattle.std.specs.Cmp.Lexicographic.{pointwise, slice_cmp}
use Rattle.std.specs.List.Sorted.{IsSorted}
use Rattle.indexmap.specs.IndexMap.{IsReordered, IsUnique, keys}
use Rattle.std.specs.declared.cmp.Ordering.{Ordering}
use Rattle.std.specs.String.{string_cmp, string_eq}
use Rattle.std.specs.declared.alloc.Global.{Global}
use Rattle.std.specs.List.{list_any}
use Rattle.std.specs.Map.{lookup, update}
use Rattle.fw_select.specs.Groups.{GroupCost, groups_of, is_same, sum_in}
use Rattle.fw_select.specs.declared.table.Sums.{Sums}
use Rattle.fw_select.specs.declared.table.Table.{Table}

-- the texts of a group that is kept
abbrev pub texts_of : Vec (String Global) Global → List (List ℕ)
texts_of group = map string_bytes group.items

-- the order of the groups that are kept
abbrev pub kept_cmp : Vec (String Global) Global → Vec (String Global) Global → Ordering
kept_cmp x y = slice_cmp string_cmp x.items y.items

-- whether two groups that are kept are one
abbrev pub kept_eq : Vec (String Global) Global → Vec (String Global) Global → Bool
kept_eq x y = pointwise string_eq x.items y.items

-- whether a group that is kept has these texts
abbrev pub has_texts : List (List ℕ) → Vec (String Global) Global → Bool
has_texts group kept = is_same group (texts_of kept)

-- what is kept of a group: nothing where no line is in it
unfoldable pub sums_of : List GroupCost → List (List ℕ) → Option Sums
sums_of costs group =
    if list_any (is_same group) (groups_of costs)
    then Some (record { billed = sum_in (λ c. c.billed) costs group; effective = sum_in (λ c. c.effective) costs group; amount = sum_in (λ c. c.amount) costs group })
    else None

-- the sums of a group, where it has any
abbrev pub sums_at : Table → List (List ℕ) → Option Sums
sums_at table group = lookup (has_texts group) table.by_group.entries

-- the group at a place, where there is one
abbrev pub group_at : Table → ℕ → Option (List (List ℕ))
group_at table place = option_map texts_of (slice_get (keys table.by_group) place)

-- each group keeps its place
pub record KeepsGroups (old new : Table) : Type 0 where
  pub each : (place : ℕ) (group : List (List ℕ)) → group_at old place ≡ Some group → group_at new place ≡ Some group

-- the same sums, in rising order of their groups
pub record IsInOrder (old new : Table) : Type 0 where
  pub reordered : IsReordered kept_eq old.by_group new.by_group
  pub sorted : IsSorted kept_cmp (keys new.by_group)
  pub unique : IsUnique kept_eq new.by_group

-- the sums kept are those of these lines
pub record AreSums (table : Table) (costs : List GroupCost) : Type 0 where
  pub sums : (g : List (List ℕ)) → sums_at table g ≡ sums_of costs g

-- sums with one more line
abbrev pub added : GroupCost → Option Sums → Sums
added cost None = record { billed = cost.billed; effective = cost.effective; amount = cost.amount }
added cost (Some sums) = record { billed = sums.billed +ℤ cost.billed; effective = sums.effective +ℤ cost.effective; amount = sums.amount +ℤ cost.amount }

-- the line is counted in its group, and the other groups stay
pub record AddsLine (old new : Table) (cost : GroupCost) : Type 0 where
  pub sums : (g : List (List ℕ)) → sums_at new g ≡ update is_same (sums_at old) cost.group (Some (added cost (sums_at old cost.group))) g

-- what the lines of a group come to, by the sums that are kept of it
abbrev pub kept_total : Vec (String Global) Global × Sums → GroupCost
kept_total e = record { group = texts_of e.0; billed = e.1.billed; effective = e.1.effective; amount = e.1.amount }
