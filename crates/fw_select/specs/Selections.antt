-- What a selection says.
use Rattle.std.specs.Prelude.{◌≡◌, ◌+◌, ◌<◌, ◌≤◌, ℕ, List, length, take, sum_by, nat_abs, slice_get, Some, string_bytes, ⊤}
use Rattle.fw_amortise.specs.LineValue.{LineValue}
use Rattle.fw_entry.specs.Entry as entry
use Rattle.fw_query.specs.Limits.{most_total}
use Rattle.fw_query.specs.OfHistory.{AreLinesOf}
use Rattle.fw_query.specs.declared.fault.QueryFault.{QueryFault}
use Rattle.fw_query.specs.declared.fault.QueryFault.TheVariants as fault
use Rattle.fw_sums.specs.Limits.{IsRange}
use Rattle.fw_select.specs.Groups.{AreTotals, GroupCost}
use Rattle.fw_select.specs.Names.{group_name}
use Rattle.fw_select.specs.Selectors.{costs_of}
use Rattle.fw_select.specs.declared.selector.Selector.{Selector}

-- the sum of the absolute effective costs of groups
abbrev pub size_of : List GroupCost → ℕ
size_of groups = sum_by (λ g. nat_abs g.effective) groups

-- the selection of these lines: the totals of the groups of those that the selector takes, which aren't too large
pub record IsSelectionOf (s : Selector) (lines : List LineValue) (groups : List GroupCost) : Type 0 where
  pub are_totals : AreTotals (costs_of s lines) groups
  pub within : size_of groups ≤ most_total

-- the selection of the lines of the hours from `from` up to, and not including, `to`, after these entries were accepted
pub record IsSelection (history : List entry.EntryValue) (s : Selector) (from to : ℕ) (groups : List GroupCost) : Type 0 where
  pub lines : List LineValue
  pub are_lines : AreLinesOf history from to lines
  pub is_selection : IsSelectionOf s lines groups

-- the groups before this place don't pass the most, and with the group at it they do
pub record PassesAt (groups : List GroupCost) (place : ℕ) : Type 0 where
  pub below : place < length groups
  pub within : size_of (take place groups) ≤ most_total
  pub past : most_total < size_of (take (place + 1) groups)

-- the totals of the groups of these hours pass the most at the group with this name
pub record IsTooLarge (history : List entry.EntryValue) (s : Selector) (from to : ℕ) (name : List ℕ) : Type 0 where
  pub lines : List LineValue
  pub are_lines : AreLinesOf history from to lines
  pub groups : List GroupCost
  pub are_totals : AreTotals (costs_of s lines) groups
  pub place : ℕ
  pub passes : PassesAt groups place
  pub group : GroupCost
  pub is_there : slice_get groups place ≡ Some group
  pub name_is : name ≡ group_name group.group

-- there is no selection of the hours for this reason; a failed allocation may come in place of any answer
abbrev pub IsRefused : List entry.EntryValue → Selector → ℕ → ℕ → QueryFault → Type 0
IsRefused history s from to fault.Range = ¬ IsRange from to
IsRefused history s from to (fault.TotalTooLarge name) = IsRange from to × IsTooLarge history s from to (string_bytes name)
IsRefused history s from to fault.NoMemory = ⊤
