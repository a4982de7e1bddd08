-- Two reports, group by group.
use Rattle.std.specs.Prelude.{ℕ, List, [], ◌∷◌, map, Option, Some, cond}
use Rattle.std.specs.Cmp.Lexicographic.{slice_cmp}
use Rattle.std.specs.Option.{option_map}
use Rattle.std.specs.Ordering.{is_eq, is_lt, nat_cmp}
use Rattle.fw_compare.specs.Costs.{less, none}
use Rattle.fw_compare.specs.Groups.{GroupValue}
use Rattle.fw_compare.specs.declared.costs.Costs.{Costs}
use Rattle.fw_compare.specs.declared.line.Line.{Line}

-- what a group cost before and after, and the difference; without a name it is of several groups
pub record LineValue : Type 0 where
  pub name : Option (List ℕ)
  pub before : Costs
  pub after : Costs
  pub change : Costs

abbrev pub line : Option (List ℕ) → Costs → Costs → LineValue
line name before after = record {
  name = name;
  before = before;
  after = after;
  change = less after before;
}

-- a group that is in both reports, in the first alone, and in the second alone
abbrev pub in_both : GroupValue → GroupValue → LineValue
in_both b a = line (Some a.name) b.costs a.costs

abbrev pub in_first : GroupValue → LineValue
in_first b = line (Some b.name) b.costs none

abbrev pub in_second : GroupValue → LineValue
in_second a = line (Some a.name) none a.costs

-- the line of the lower name comes first; equal names have one line
unfoldable pub compared : List GroupValue → List GroupValue → List LineValue
compared [] after = map in_second after
compared (b ∷ before) [] = in_first b ∷ compared before []
compared (b ∷ before) (a ∷ after) =
    cond (is_lt (slice_cmp nat_cmp b.name a.name)) (in_first b ∷ compared before (a ∷ after))
    (cond (is_eq (slice_cmp nat_cmp b.name a.name)) (in_both b a ∷ compared before after)
    (in_second a ∷ compared (b ∷ before) after))

-- a line as a plain value
abbrev pub line_value : Line → LineValue
line_value l = record {
  name = option_map (λ g. g.now.name) l.group;
  before = l.before;
  after = l.after;
  change = l.change;
}

-- what lines cost before and after, and their differences
abbrev pub befores : List LineValue → List Costs
befores lines = map (λ l. l.before) lines

abbrev pub afters : List LineValue → List Costs
afters lines = map (λ l. l.after) lines

abbrev pub changes : List LineValue → List Costs
changes lines = map (λ l. l.change) lines
