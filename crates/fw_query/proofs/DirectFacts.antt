-- What a report's groups cost directly, and were billed, sums to what its lines cost, and were billed.
use Rattle.std.proofs.Common.{◌≡◌, ◌∙◌, ℕ, Bool, true, false, Option, Some, None, IfSome, All, List, [], ◌∷◌, map, fold, sym, ap, refl, subst}
use Rattle.std.specs.Bool.{MatchBool}
use Rattle.std.specs.List.{Contains}
use Rattle.std.specs.Str.{bytes_eq}
use Rattle.std.proofs.lemmas.List.Elements.{All-head, All-tail, Contains-append_left}
use Rattle.std.proofs.lemmas.Simd.{map-map}
use Rattle.fw_entry.specs.Entry as entry
use Rattle.fw_entry.specs.Entry.CommandValue.{post, commit, set_policy, withdraw, add_purchase}
use Rattle.fw_entry.specs.Spelling.{IsCommand, IsEntry}
use Rattle.fw_snapshot.specs.History.{policy_after, policy_of}
use Rattle.fw_allocate.specs.Charges.{AreCharges, charged_to}
use Rattle.fw_allocate.specs.Costs.{CostValue, groups_in, total}
use Rattle.fw_amortise.specs.LineValue.{LineValue}
use Rattle.fw_terms.specs.Policy.{IsPolicy, PolicyValue}
use Rattle.fw_terms.specs.Texts.{IsRising}
use Rattle.fw_sums.specs.Costs.{AreGroups, Cost, costs_of, groups_of, sum_in}
use Rattle.fw_query.specs.Reports.{AreChargedBy, EntryValue, IsReportOf, direct_costs, entries_of}
use Rattle.fw_query.specs.OfHistory.{AreLinesOf, IsReportOn}
use Rattle.fw_query.proofs.OneAnswer.{range_lines_same}
use Rattle.fw_query.proofs.ReportFacts.{groups_in_direct}
use Rattle.fw_query.proofs.TotalFacts.{effective_in_lines, report_total, sum_of_groups}
use Rattle.fw_snapshot.specs.History.{commitments_of, rows_of}

-- ---- the policy of a history keeps its limits
after_keeps : (before : Option PolicyValue) (c : entry.CommandValue) → IfSome before IsPolicy → IsCommand c → IfSome (policy_after before c) IsPolicy
after_keeps before (post rows) is known = is
after_keeps before (commit c) is known = is
after_keeps before (set_policy p) is known = known.limits
after_keeps before (withdraw n) is known = is
after_keeps before (add_purchase a) is known = is

all_keep : (before : Option PolicyValue) (history : List entry.EntryValue) → IfSome before IsPolicy → All IsEntry history → IfSome (fold (λ before (e : entry.EntryValue). policy_after before e.command) before history) IsPolicy
all_keep before [] is each = is
all_keep before (e ∷ history) is each =
    all_keep (policy_after before e.command) history (after_keeps before e.command is (All-head IsEntry e history each).command) (All-tail IsEntry e history each)

pub policy_keeps : (history : List entry.EntryValue) → All IsEntry history → IfSome (policy_of history) IsPolicy
unfolding policy_of
policy_keeps history each = all_keep None history tt each

-- ---- each group of a line is charged
-- the charged groups rise, and each group of a line is among them
record HasGroups (costs : List Cost) (charged : List CostValue) : Type 0 where
  rising : IsRising (groups_in charged)
  each : (g : List ℕ) → Contains (groups_of costs) g → Contains (groups_in charged) g

direct_has : (costs : List Cost) (groups : List (List ℕ)) → AreGroups costs groups → HasGroups costs (direct_costs costs groups)
direct_has costs groups are = record {
  rising = rw (groups_in_direct costs groups) are.rising;
  each = λ g c. rw (groups_in_direct costs groups) ((are.each g).1 c);
}

charges_have : (costs : List Cost) (groups : List (List ℕ)) (policy : PolicyValue) (charged : List CostValue) → AreGroups costs groups → AreCharges (direct_costs costs groups) policy.rules charged → HasGroups costs charged
charges_have costs groups policy charged are p =
    let direct : List CostValue = direct_costs costs groups in
    let same : groups_in charged ≡ p.groups =
    ap groups_in p.costs ∙ map-map (λ (c : CostValue). c.group) (λ g. record { group = g; cost = charged_to direct p.gifts g }) p.groups ∙ map_same p.groups in
    record {
      rising = subst IsRising (sym same) p.are_groups.rising;
      each = λ g c. subst (λ gs. Contains gs g) (sym same)
          ((p.are_groups.each g).1 (Contains-append_left (groups_in direct) _ g ((direct_has costs groups are).each g c)));
    }
  where
    map_same : (gs : List (List ℕ)) → map (λ g. g) gs ≡ gs
    map_same [] = refl
    map_same (g ∷ gs) = ap (λ l. g ∷ l) (map_same gs)

charged_has : (policy : Option PolicyValue) (key : List ℕ) (costs : List Cost) (groups : List (List ℕ)) (charged : List CostValue) → AreGroups costs groups → AreChargedBy policy key (direct_costs costs groups) charged → HasGroups costs charged
charged_has None key costs groups charged are by = subst (HasGroups costs) (sym by) (direct_has costs groups are)
charged_has (Some policy) key costs groups charged are by = go (bytes_eq policy.key key) by
  where
    go : (same : Bool) → MatchBool same (AreCharges (direct_costs costs groups) policy.rules charged) (charged ≡ direct_costs costs groups) → HasGroups costs charged
    go true h = charges_have costs groups policy charged are h
    go false h = subst (HasGroups costs) (sym h) (direct_has costs groups are)

-- ---- the sums of a report's entries
direct_in_entries : (costs : List Cost) (charged : List CostValue) → map (λ (e : EntryValue). e.direct) (entries_of costs charged) ≡ map (sum_in (λ c. c.effective) costs) (groups_in charged)
unfolding entries_of
direct_in_entries costs [] = refl
direct_in_entries costs (c ∷ charged) = let rest = direct_in_entries costs charged in ap (λ l. sum_in (λ c. c.effective) costs c.group ∷ l) rest

billed_in_entries : (costs : List Cost) (charged : List CostValue) → map (λ (e : EntryValue). e.billed) (entries_of costs charged) ≡ map (sum_in (λ c. c.billed) costs) (groups_in charged)
unfolding entries_of
billed_in_entries costs [] = refl
billed_in_entries costs (c ∷ charged) = let rest = billed_in_entries costs charged in ap (λ l. sum_in (λ c. c.billed) costs c.group ∷ l) rest

billed_in_lines : (key : List ℕ) (lines : List LineValue) → map (λ (c : Cost). c.billed) (costs_of key lines) ≡ map (λ (l : LineValue). l.billed) lines
billed_in_lines key [] = refl
billed_in_lines key (l ∷ lines) = let rest = billed_in_lines key lines in ap (λ r. l.billed ∷ r) rest

direct_total : (policy : Option PolicyValue) (key : List ℕ) (lines : List LineValue) (entries : List EntryValue) → IsReportOf policy key lines entries
    → total (map (λ e. e.direct) entries) ≡ total (map (λ l. l.effective) lines)
direct_total policy key lines entries report =
    let has = charged_has policy key (costs_of key lines) report.groups report.charged report.are_groups report.are_charged in
    ap (λ es. total (map (λ (e : EntryValue). e.direct) es)) report.entries_are
    ∙ ap total (direct_in_entries (costs_of key lines) report.charged)
    ∙ sum_of_groups (λ c. c.effective) (costs_of key lines) (groups_in report.charged) has.rising has.each
    ∙ ap total (effective_in_lines key lines)

billed_total : (policy : Option PolicyValue) (key : List ℕ) (lines : List LineValue) (entries : List EntryValue) → IsReportOf policy key lines entries
    → total (map (λ e. e.billed) entries) ≡ total (map (λ l. l.billed) lines)
billed_total policy key lines entries report =
    let has = charged_has policy key (costs_of key lines) report.groups report.charged report.are_groups report.are_charged in
    ap (λ es. total (map (λ (e : EntryValue). e.billed) es)) report.entries_are
    ∙ ap total (billed_in_entries (costs_of key lines) report.charged)
    ∙ sum_of_groups (λ c. c.billed) (costs_of key lines) (groups_in report.charged) has.rising has.each
    ∙ ap total (billed_in_lines key lines)

-- ---- over a history
pub charged_direct : (history : List entry.EntryValue) (key : List ℕ) (from to : ℕ) (report : List EntryValue) → All IsEntry history → IsReportOn history key from to report
    → total (map (λ e. e.charged) report) ≡ total (map (λ e. e.direct) report)
charged_direct history key from to report each is =
    report_total (policy_of history) key is.lines report (policy_keeps history each) is.is_report ∙ sym (direct_total (policy_of history) key is.lines report is.is_report)

pub direct_lines : (history : List entry.EntryValue) (key : List ℕ) (from to : ℕ) (lines : List LineValue) (report : List EntryValue) → AreLinesOf history from to lines → IsReportOn history key from to report
    → total (map (λ e. e.direct) report) ≡ total (map (λ l. l.effective) lines)
direct_lines history key from to lines report are is =
    direct_total (policy_of history) key is.lines report is.is_report
    ∙ ap (λ ls. total (map (λ (l : LineValue). l.effective) ls)) (range_lines_same (commitments_of history) (rows_of history) from to is.lines lines is.are_lines are)

pub billed_lines : (history : List entry.EntryValue) (key : List ℕ) (from to : ℕ) (lines : List LineValue) (report : List EntryValue) → AreLinesOf history from to lines → IsReportOn history key from to report
    → total (map (λ e. e.billed) report) ≡ total (map (λ l. l.billed) lines)
billed_lines history key from to lines report are is =
    billed_total (policy_of history) key is.lines report is.is_report
    ∙ ap (λ ls. total (map (λ (l : LineValue). l.billed) ls)) (range_lines_same (commitments_of history) (rows_of history) from to is.lines lines is.are_lines are)
