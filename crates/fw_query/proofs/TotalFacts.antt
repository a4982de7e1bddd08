-- What a report charges sums to what its lines cost.
use Rattle.std.proofs.Common.{◌≡◌, ◌∙◌, ℕ, suc, ℤ, pos, ◌+ℤ◌, Bool, true, false, cond, Option, Some, None, IfSome, List, [], ◌∷◌, map, sym, ap, refl, arith}
use Rattle.std.proofs.lemmas.Int.{ints}
use Rattle.std.proofs.lemmas.Cmp.{nat_list_eq_equiv}
use Rattle.std.specs.Bool.{MatchBool}
use Rattle.std.specs.List.{Contains}
use Rattle.std.specs.Str.{bytes_eq}
use Rattle.fw_allocate.specs.Charges.{AreCharges}
use Rattle.fw_allocate.specs.Costs.{CostValue, amounts_in, groups_in, total, total_cost}
use Rattle.fw_allocate.proofs.Balance.{charges_total}
use Rattle.fw_allocate.proofs.Totals.{only, only_once, sum_add, sum_of, sum_same, total_cons}
use Rattle.fw_amortise.specs.LineValue.{LineValue}
use Rattle.fw_terms.specs.Policy.{IsPolicy, PolicyValue}
use Rattle.fw_terms.specs.Texts.{IsRising}
use Rattle.fw_sums.specs.Costs.{Cost, costs_of, groups_of, lines_in, sum_in}
use Rattle.fw_query.specs.Reports.{AreChargedBy, EntryValue, IsReportOf, direct_costs, entries_of}
use Rattle.fw_query.proofs.ReportFacts.{groups_in_direct}

-- ---- the sums of all groups are the sum over all lines
sum_in-cons : (amount : Cost → ℤ) (c : Cost) (costs : List Cost) (g : List ℕ) → sum_in amount (c ∷ costs) g ≡ only c.group (amount c) g +ℤ sum_in amount costs g
unfolding sum_in only
sum_in-cons amount c costs g = by (bytes_eq g c.group) refl
  where
    by : (b : Bool) → bytes_eq g c.group ≡ b
        → total (map amount (cond (bytes_eq g c.group) (c ∷ lines_in g costs) (lines_in g costs))) ≡ cond (bytes_eq c.group g) (amount c) (pos 0) +ℤ total (map amount (lines_in g costs))
    by true e =
        let met : bytes_eq c.group g ≡ true = nat_list_eq_equiv.symm c.group g ∙ e in
        rw (e, met) (total_cons (amount c) (map amount (lines_in g costs)))
    by false e =
        let met : bytes_eq c.group g ≡ false = nat_list_eq_equiv.symm c.group g ∙ e in
        rw (e, met) (omega (arith, ints))

sums_of_nothing : (amount : Cost → ℤ) (groups : List (List ℕ)) → sum_of (sum_in amount []) groups ≡ pos 0
unfolding sum_in
sums_of_nothing amount [] = refl
sums_of_nothing amount (g ∷ groups) = sums_of_nothing amount groups

pub sum_of_groups : (amount : Cost → ℤ) (costs : List Cost) (groups : List (List ℕ)) → IsRising groups → ((g : List ℕ) → Contains (groups_of costs) g → Contains groups g)
    → sum_of (sum_in amount costs) groups ≡ sum_of amount costs
sum_of_groups amount [] groups rising there = sums_of_nothing amount groups
sum_of_groups amount (c ∷ costs) groups rising there =
    sum_same (sum_in amount (c ∷ costs)) (λ g. only c.group (amount c) g +ℤ sum_in amount costs g) groups (sum_in-cons amount c costs)
    ∙ sum_add (only c.group (amount c)) (sum_in amount costs) groups
    ∙ ap (λ z. z +ℤ sum_of (sum_in amount costs) groups) (only_once c.group (amount c) groups rising (there c.group (0, omega arith, refl)))
    ∙ ap (λ z. amount c +ℤ z) (sum_of_groups amount costs groups rising (λ g d. there g (suc d.0, omega (arith, d.1), d.2)))
    ∙ sym (total_cons (amount c) (map amount costs))

-- ---- the amounts of a report
amounts_in_direct : (costs : List Cost) (groups : List (List ℕ)) → amounts_in (direct_costs costs groups) ≡ map (sum_in (λ c. c.effective) costs) groups
unfolding direct_costs
amounts_in_direct costs [] = refl
amounts_in_direct costs (g ∷ groups) = let rest = amounts_in_direct costs groups in ap (λ l. sum_in (λ c. c.effective) costs g ∷ l) rest

charged_in_entries : (costs : List Cost) (charged : List CostValue) → map (λ (e : EntryValue). e.charged) (entries_of costs charged) ≡ amounts_in charged
unfolding entries_of
charged_in_entries costs [] = refl
charged_in_entries costs (c ∷ charged) = let rest = charged_in_entries costs charged in ap (λ l. c.cost ∷ l) rest

pub effective_in_lines : (key : List ℕ) (lines : List LineValue) → map (λ (c : Cost). c.effective) (costs_of key lines) ≡ map (λ (l : LineValue). l.effective) lines
effective_in_lines key [] = refl
effective_in_lines key (l ∷ lines) = let rest = effective_in_lines key lines in ap (λ r. l.effective ∷ r) rest

-- ---- a policy makes no cost
charged_total : (policy : Option PolicyValue) (key : List ℕ) (direct charged : List CostValue) → IfSome policy IsPolicy → IsRising (groups_in direct) → AreChargedBy policy key direct charged
    → total_cost charged ≡ total_cost direct
charged_total None key direct charged is rising by = ap total_cost by
charged_total (Some policy) key direct charged is rising by = go (bytes_eq policy.key key) by
  where
    go : (b : Bool) → MatchBool b (AreCharges direct policy.rules charged) (charged ≡ direct) → total_cost charged ≡ total_cost direct
    go true h = charges_total direct policy charged rising is h
    go false h = ap total_cost h

pub report_total : (policy : Option PolicyValue) (key : List ℕ) (lines : List LineValue) (entries : List EntryValue) → IfSome policy IsPolicy → IsReportOf policy key lines entries
    → total (map (λ e. e.charged) entries) ≡ total (map (λ l. l.effective) lines)
report_total policy key lines entries is report =
    ap (λ es. total (map (λ (e : EntryValue). e.charged) es)) report.entries_are
    ∙ ap total (charged_in_entries (costs_of key lines) report.charged)
    ∙ charged_total policy key (direct_costs (costs_of key lines) report.groups) report.charged is (rw (groups_in_direct (costs_of key lines) report.groups) report.are_groups.rising) report.are_charged
    ∙ ap total (amounts_in_direct (costs_of key lines) report.groups)
    ∙ sum_of_groups (λ c. c.effective) (costs_of key lines) report.groups report.are_groups.rising (λ g c. (report.are_groups.each g).1 c)
    ∙ ap total (effective_in_lines key lines)
