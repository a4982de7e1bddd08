-- Lemmas on what lines bring, and on lines that are counted hour by hour.
use Rattle.std.proofs.Common.{◌≡◌, ◌∙◌, ℕ, ◌+◌, ◌-◌, false, Bool, true, List, [], ◌∷◌, ◌++◌, length, map, filter, take, get_or, ◌<◌, subst, sym, ap, refl, arith, append-nil, append_assoc}
use Rattle.std.proofs.lemmas.Grind.{flat_map-append}
use Rattle.std.proofs.lemmas.List.{map-append, map_more, take_more}
use Rattle.std.proofs.lemmas.List.Elements.{filter-append}
use Rattle.std.specs.List.{range_with_len}
use Rattle.fw_charge.specs.Charge.{Charge}
use Rattle.fw_terms.specs.Commitment.{CommitmentValue}
use Rattle.fw_amortise.specs.LineValue.{LineValue}
use Rattle.fw_amortise.specs.Lines.{AreHourLines, rows_in}
use Rattle.fw_sums.specs.Hours.{is_touched}
use Rattle.fw_sums.specs.RangeLines.{joined}
use Rattle.fw_sums.proofs.RangeFacts.{hourly-more, hourly_zip}
use Rattle.fw_sums.proofs.UntouchedFacts.{are_plain, plain_lines}
use Rattle.fw_select.specs.Counting.{CountsHour, CountsHours, HasTotals}
use Rattle.fw_select.specs.Groups.{AreTotals, GroupCost, as_amount}
use Rattle.fw_select.specs.Rows.{plain_line}
use Rattle.fw_select.specs.Selectors.{costs_of, is_taken, line_cost}
use Rattle.fw_select.specs.Table.{AreSums}
use Rattle.fw_select.specs.declared.selector.Selector.{Selector}
use Rattle.fw_select.specs.declared.table.Table.{Table}
use Rattle.fw_select.proofs.MovedFacts.{AreSums-moved}
use Rattle.fw_select.proofs.PlainFacts.{costs_of-append, plain_costs}

-- one more line of a list is counted
pub one_more : (s : Selector) (before : List GroupCost) (lines : List LineValue) (i : ℕ) (line : LineValue) → i < length lines → line ≡ get_or lines i line
    → (before ++ costs_of s (take i lines)) ++ costs_of s (line ∷ []) ≡ before ++ costs_of s (take (i + 1) lines)
one_more s before lines i line below is =
    append_assoc before (costs_of s (take i lines)) (costs_of s (line ∷ []))
    ∙ ap (λ l. before ++ l) (sym (costs_of-append s (take i lines) (line ∷ [])) ∙ ap (costs_of s) (ap (λ y. take i lines ++ y ∷ []) is ∙ sym (take_more lines i line below)))

-- one more group of a list is counted
pub group_more : (before groups : List GroupCost) (i : ℕ) (group : GroupCost) → i < length groups → group ≡ get_or groups i group
    → (before ++ take i groups) ++ group ∷ [] ≡ before ++ take (i + 1) groups
group_more before groups i group below is =
    append_assoc before (take i groups) (group ∷ []) ∙ ap (λ l. before ++ l) (ap (λ y. take i groups ++ y ∷ []) is ∙ sym (take_more groups i group below))

-- one more group of a list is counted as an amount
pub amount_more : (before groups : List GroupCost) (i : ℕ) (group : GroupCost) → i < length groups → group ≡ get_or groups i group
    → (before ++ map as_amount (take i groups)) ++ as_amount group ∷ [] ≡ before ++ map as_amount (take (i + 1) groups)
amount_more before groups i group below is =
    append_assoc before (map as_amount (take i groups)) (as_amount group ∷ [])
    ∙ ap (λ l. before ++ l) (ap (λ y. map as_amount (take i groups) ++ as_amount y ∷ []) is ∙ sym (map_more as_amount groups i group below))

-- a line that is taken brings its costs, and another brings nothing
pub costs_of-taken : (s : Selector) (line : LineValue) → is_taken s line ≡ true → costs_of s (line ∷ []) ≡ line_cost s line ∷ []
costs_of-taken s line taken = rw taken refl

pub costs_of-left : (s : Selector) (line : LineValue) → is_taken s line ≡ false → costs_of s (line ∷ []) ≡ []
costs_of-left s line left = rw left refl

-- where the rows of an hour were counted as they are, and no commitment has a line in it, its lines were
pub counts_plain : (table : Table) (before : List GroupCost) (s : Selector) (cs : List CommitmentValue) (rows : List Charge) (hour : ℕ) → is_touched cs hour ≡ false
    → AreSums table (before ++ costs_of s (map plain_line rows)) → CountsHour table before s cs rows hour
counts_plain table before s cs rows hour untouched sums = record {
  lines = plain_lines rows hour;
  are_lines = are_plain cs rows hour untouched;
  sums = AreSums-moved table before (costs_of s (map plain_line rows)) (costs_of s (plain_lines rows hour)) (plain_costs s rows hour) sums;
}

-- one more hour is counted
pub CountsHours-more : (new : Table) (s : Selector) (cs : List CommitmentValue) (by_hour : List (List Charge)) (rows : List Charge) (from hour : ℕ)
    → hour ≡ from + length by_hour → (old : Table) → (counted : CountsHours old s cs by_hour from) → CountsHour new (costs_of s (joined counted.hourly)) s cs rows hour → CountsHours new s cs (by_hour ++ rows ∷ []) from
CountsHours-more new s cs by_hour rows from hour at old counted more =
    let all : joined (counted.hourly ++ more.lines ∷ []) ≡ joined counted.hourly ++ more.lines =
    flat_map-append (λ lines. lines) counted.hourly (more.lines ∷ []) ∙ ap (λ l. joined counted.hourly ++ l) (append-nil more.lines) in
    let brought : costs_of s (joined (counted.hourly ++ more.lines ∷ [])) ≡ costs_of s (joined counted.hourly) ++ costs_of s more.lines =
    ap (costs_of s) all ∙ costs_of-append s (joined counted.hourly) more.lines in
    record {
      hourly = counted.hourly ++ more.lines ∷ [];
      are_hourly = hourly-more cs from by_hour counted.hourly rows more.lines counted.are_hourly (rw at at more.are_lines);
      sums = subst (AreSums new) (sym brought) more.sums;
    }

-- the totals of what was counted
pub totals_of : (table : Table) (s : Selector) (cs : List CommitmentValue) (rows : List Charge) (by_hour : List (List Charge)) (from hours : ℕ) (groups : List GroupCost)
    → (counted : CountsHours table s cs by_hour from) → by_hour ≡ map (λ h. rows_in h rows) (range_with_len from hours)
    → ((costs : List GroupCost) → AreSums table costs → AreTotals costs groups) → HasTotals cs rows s from hours groups
totals_of table s cs rows by_hour from hours groups counted each totals =
    let back : hours ≡ (from + hours) - from = omega arith in
    record {
      lines = joined counted.hourly;
      are_lines = record { hourly = counted.hourly; are_hourly = rw (← back) (hourly_zip cs rows hours from counted.hourly (rw each at counted.are_hourly)); lines_are = refl };
      are_totals = totals (costs_of s (joined counted.hourly)) counted.sums;
    }
