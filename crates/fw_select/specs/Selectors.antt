-- Which lines a selector takes, and what each of them brings.
use Rattle.std.specs.Prelude.{ℕ, pos, Bool, not, List, map, filter, if◌then◌else◌}
use Rattle.std.specs.Borrow.{Bor}
use Rattle.std.specs.List.{list_any}
use Rattle.std.specs.Str.{bytes_eq}
use Rattle.fw_amortise.specs.LineValue.{LineValue}
use Rattle.fw_select.specs.Groups.{GroupCost}
use Rattle.fw_select.specs.Keys.{value}
use Rattle.fw_select.specs.declared.key.Key.{Key}
use Rattle.fw_select.specs.declared.selector.Filter.{Filter}
use Rattle.fw_select.specs.declared.selector.Selector.{Selector}

-- whether a text is one of some values
abbrev pub is_value : List (Bor (List ℕ)) → List ℕ → Bool
is_value values text = list_any (λ v. bytes_eq v.now text) values

-- whether a filter doesn't hold of a line
abbrev pub fails : Filter → LineValue → Bool
fails f line = if f.is_one then not (is_value f.values.now (value f.key line)) else is_value f.values.now (value f.key line)

-- whether a selector takes a line: no filter fails
abbrev pub passes : List Filter → LineValue → Bool
passes filters line = not (list_any (λ f. fails f line) filters)

abbrev pub is_taken : Selector → LineValue → Bool
is_taken s line = passes s.filters.now line

-- the group of a line: the value of each key on it
abbrev pub group_by : List Key → LineValue → List (List ℕ)
group_by keys line = map (λ k. value k line) keys

abbrev pub group_on : Selector → LineValue → List (List ℕ)
group_on s line = group_by s.keys.now line

-- what a line brings: its costs, and no amount beside them
abbrev pub line_cost : Selector → LineValue → GroupCost
line_cost s line = record { group = group_on s line; billed = line.billed; effective = line.effective; amount = pos 0 }

-- what the lines bring that the selector takes
abbrev pub costs_of : Selector → List LineValue → List GroupCost
costs_of s lines = map (line_cost s) (filter (is_taken s) lines)
