-- Lemmas on reports.
use Rattle.std.proofs.Common.{Bool, true, ◌||◌, pos, false, Option, Some, None, IfSome, ◌≡◌, ◌∙◌, ℕ, ◌+◌, ◌<◌, ◌≤◌, ℤ, List, [], ◌∷◌, ◌++◌, map, take, drop, fold, get_or, nat_abs, sym, ap, refl, arith}
use Rattle.std.proofs.lemmas.List.{take_more, map-append, drop_more, take-append-drop}
use Rattle.std.proofs.lemmas.List.Sums.{sum_by-append}
use Rattle.fw_allocate.specs.Costs.{CostValue, groups_in, size_of}
use Rattle.fw_amortise.specs.LineValue.{LineValue}
use Rattle.fw_terms.specs.Policy.{PolicyValue}
use Rattle.std.specs.Str.{bytes_eq}
use Rattle.std.proofs.lemmas.Cmp.{nat_list_eq_equiv}
use Rattle.std.proofs.lemmas.Map.Made.{is_member-Decides}
use Rattle.std.proofs.lemmas.Slice.Eq.{bytes_eq-Decides}
use Rattle.std.specs.List.{list_any}
use Rattle.std.specs.Option.{option_map_or}
use Rattle.fw_terms.specs.Texts.{IsRising}
use Rattle.fw_sums.proofs.SumFacts.{sum_in-none}
use Rattle.fw_sums.specs.Costs.{AreGroups, Cost, costs_of, groups_of, sum_in}
use Rattle.fw_query.specs.Reports.{AreChargedBy, EntryValue, IsReportOf, PassesIn, direct_costs, entries_of}
use Rattle.fw_query.specs.Limits.{most_total}
use Rattle.fw_sums.specs.Totals.{AreTotals, total_of}
use Rattle.fw_query.specs.Entries.{plain_entry, AreEntries, AreUnder, PassesAtPlace, charged_entry, direct_size, directs_of, entry_at}

directs_of-entries_of : (costs : List Cost) (groups : List (List ℕ)) → directs_of (entries_of costs (direct_costs costs groups)) ≡ direct_costs costs groups
unfolding entries_of direct_costs
directs_of-entries_of costs [] = refl
directs_of-entries_of costs (g ∷ groups) = let rest = directs_of-entries_of costs groups in ap (λ l. record { group = g; cost = sum_in (λ c. c.effective) costs g } ∷ l) rest

size_from : (start : ℕ) (entries : List EntryValue) → fold (λ t (c : CostValue). t + nat_abs c.cost) start (directs_of entries) ≡ fold (λ t (e : EntryValue). t + nat_abs e.direct) start entries
size_from start [] = refl
size_from start (e ∷ entries) = size_from (start + nat_abs e.direct) entries

size_of-directs_of : (entries : List EntryValue) → size_of (directs_of entries) ≡ direct_size entries
size_of-directs_of entries = size_from 0 entries

-- totals as entries
entries_of-totals : (costs : List Cost) (groups : List (List ℕ)) → map plain_entry (map (total_of costs) groups) ≡ entries_of costs (direct_costs costs groups)
unfolding entries_of direct_costs
entries_of-totals costs [] = refl
entries_of-totals costs (g ∷ groups) = let rest = entries_of-totals costs groups in ap (λ l. plain_entry (total_of costs g) ∷ l) rest

pub plain_entries : (costs totals : List Cost) → AreTotals costs totals → AreEntries costs (map plain_entry totals)
plain_entries costs totals are = record { groups = are.groups; are_groups = are.are_groups; entries_are = ap (map plain_entry) are.totals_are ∙ entries_of-totals costs are.groups }

-- the entries' direct costs are those of the groups
directs_are : (costs : List Cost) (entries : List EntryValue) (are : AreEntries costs entries) → direct_costs costs are.groups ≡ directs_of entries
directs_are costs entries are = sym (directs_of-entries_of costs are.groups) ∙ ap directs_of (sym are.entries_are)

-- entries that pass the most at a place are too large at the group there
pub PassesIn-from_entries : (costs : List Cost) (entries : List EntryValue) (place : ℕ) (e : EntryValue) → AreEntries costs entries → PassesAtPlace entries place → e ≡ get_or entries place e
    → PassesIn costs e.group
PassesIn-from_entries costs entries place e are passes is = record {
  groups = are.groups;
  are_groups = are.are_groups;
  passes = record {
    before = directs_of (take place entries);
    cost = e.direct;
    after = directs_of (drop (place + 1) entries);
    split = directs_are costs entries are
        ∙ ap directs_of (sym (take-append-drop place entries) ∙ ap (λ l. take place entries ++ l) (drop_more entries place e passes.below ∙ ap (λ x. x ∷ drop (place + 1) entries) (sym is)))
        ∙ map-append (λ (x : EntryValue). record { group = x.group; cost = x.direct }) (take place entries) (e ∷ drop (place + 1) entries);
    within = rw (size_of-directs_of (take place entries)) passes.within;
    past =
        let more : direct_size (take (place + 1) entries) ≡ direct_size (take place entries) + nat_abs e.direct =
        ap direct_size (take_more entries place e passes.below ∙ ap (λ x. take place entries ++ x ∷ []) (sym is)) ∙ sum_by-append (λ (x : EntryValue). nat_abs x.direct) (take place entries) (e ∷ []) ∙ omega arith in
        let past : most_total < direct_size (take (place + 1) entries) = passes.past in
        rw (size_of-directs_of (take place entries)) (omega arith);
  };
}

-- entries of which each is charged its direct cost are a report, where no policy says else
pub IsReportOf-plain : (policy : Option PolicyValue) (key : List ℕ) (lines : List LineValue) (entries : List EntryValue) → AreEntries (costs_of key lines) entries → direct_size entries ≤ most_total
    → IfSome policy (λ p. bytes_eq p.key key ≡ false) → IsReportOf policy key lines entries
IsReportOf-plain policy key lines entries are within other = record {
  groups = are.groups;
  are_groups = are.are_groups;
  within = rw (directs_are (costs_of key lines) entries are, size_of-directs_of entries) within;
  charged = direct_costs (costs_of key lines) are.groups;
  are_charged = by policy other;
  entries_are = are.entries_are;
}
  where
    by : (p : Option PolicyValue) → IfSome p (λ p. bytes_eq p.key key ≡ false) → AreChargedBy p key (direct_costs (costs_of key lines) are.groups) (direct_costs (costs_of key lines) are.groups)
    by None h = refl
    by (Some p) h = rw h refl

-- ---- under a policy

-- a group without a line has no costs
none_there : (costs : List Cost) (groups : List (List ℕ)) (g : List ℕ) → AreGroups costs groups → list_any (bytes_eq g) groups ≡ false → list_any (bytes_eq g) (groups_of costs) ≡ false
none_there costs groups g are none = by (list_any (bytes_eq g) (groups_of costs)) refl
  where
    by : (b : Bool) → list_any (bytes_eq g) (groups_of costs) ≡ b → list_any (bytes_eq g) (groups_of costs) ≡ false
    by false e = e
    by true e =
        let there : list_any (bytes_eq g) groups ≡ true = (is_member-Decides bytes_eq-Decides groups g).1 ((are.each g).1 ((is_member-Decides bytes_eq-Decides (groups_of costs) g).0 e)) in
        absurd (cc)

-- what the entry of a group has is the sum over its lines
entry_sum : (shown : EntryValue → ℤ) (amount : Cost → ℤ) (costs : List Cost) (g : List ℕ) (groups : List (List ℕ))
    → ((h : List ℕ) → shown (record { group = h; billed = sum_in (λ l. l.billed) costs h; direct = sum_in (λ l. l.effective) costs h; charged = sum_in (λ l. l.effective) costs h }) ≡ sum_in amount costs h)
    → (list_any (bytes_eq g) groups ≡ false → sum_in amount costs g ≡ pos 0)
    → option_map_or shown (entry_at (entries_of costs (direct_costs costs groups)) g) (pos 0) ≡ sum_in amount costs g
unfolding entries_of direct_costs
entry_sum shown amount costs g [] shows none = sym (none refl)
entry_sum shown amount costs g (h ∷ groups) shows none = by (bytes_eq h g) refl (λ less. entry_sum shown amount costs g groups shows less)
  where
    by : (b : Bool) → bytes_eq h g ≡ b
        → ((list_any (bytes_eq g) groups ≡ false → sum_in amount costs g ≡ pos 0) → option_map_or shown (entry_at (entries_of costs (direct_costs costs groups)) g) (pos 0) ≡ sum_in amount costs g)
        → option_map_or shown (entry_at (entries_of costs (direct_costs costs (h ∷ groups))) g) (pos 0) ≡ sum_in amount costs g
    by true e rest = rw e (shows h ∙ ap (sum_in amount costs) ((bytes_eq-Decides h g).0 e))
    by false e rest = rw e (rest (λ no. none (ap (λ b. b || list_any (bytes_eq g) groups) (nat_list_eq_equiv.symm g h ∙ e) ∙ no)))

charged_entries : (costs : List Cost) (entries : List EntryValue) (charged : List CostValue) → AreEntries costs entries → map (charged_entry entries) charged ≡ entries_of costs charged
unfolding entries_of
charged_entries costs entries [] are = refl
charged_entries costs entries (c ∷ charged) are =
    let rest = charged_entries costs entries charged are in
    let billed : option_map_or (λ e. e.billed) (entry_at entries c.group) (pos 0) ≡ sum_in (λ l. l.billed) costs c.group =
    ap (λ es. option_map_or (λ (e : EntryValue). e.billed) (entry_at es c.group) (pos 0)) are.entries_are
    ∙ entry_sum (λ e. e.billed) (λ l. l.billed) costs c.group are.groups (λ h. refl) (λ no. sum_in-none (λ l. l.billed) costs c.group (none_there costs are.groups c.group are.are_groups no)) in
    let direct : option_map_or (λ e. e.direct) (entry_at entries c.group) (pos 0) ≡ sum_in (λ l. l.effective) costs c.group =
    ap (λ es. option_map_or (λ (e : EntryValue). e.direct) (entry_at es c.group) (pos 0)) are.entries_are
    ∙ entry_sum (λ e. e.direct) (λ l. l.effective) costs c.group are.groups (λ h. refl) (λ no. sum_in-none (λ l. l.effective) costs c.group (none_there costs are.groups c.group are.are_groups no)) in
    λ j. record { group = c.group; billed = billed j; direct = direct j; charged = c.cost } ∷ rest j

-- entries of charges under a policy for the key are a report
pub IsReportOf-under : (policy : PolicyValue) (key : List ℕ) (lines : List LineValue) (entries charged_entries : List EntryValue) → AreEntries (costs_of key lines) entries → direct_size entries ≤ most_total
    → bytes_eq policy.key key ≡ true → AreUnder entries policy.rules charged_entries → IsReportOf (Some policy) key lines charged_entries
IsReportOf-under policy key lines entries out are within same under = record {
  groups = are.groups;
  are_groups = are.are_groups;
  within = rw (directs_are (costs_of key lines) entries are, size_of-directs_of entries) within;
  charged = under.charged;
  are_charged = rw (same, directs_are (costs_of key lines) entries are) under.are_charges;
  entries_are = under.entries_are ∙ charged_entries (costs_of key lines) entries under.charged are;
}

-- the direct costs of entries are in rising order of their groups
pub groups_in_direct : (costs : List Cost) (groups : List (List ℕ)) → groups_in (direct_costs costs groups) ≡ groups
unfolding direct_costs
groups_in_direct costs [] = refl
groups_in_direct costs (g ∷ groups) = let rest = groups_in_direct costs groups in ap (λ l. g ∷ l) rest

pub rising_directs : (costs : List Cost) (entries : List EntryValue) → AreEntries costs entries → IsRising (groups_in (directs_of entries))
rising_directs costs entries are = rw (← directs_are costs entries are) (rw (groups_in_direct costs are.groups) are.are_groups.rising)

pub small_directs : (entries : List EntryValue) → direct_size entries ≤ most_total → size_of (directs_of entries) ≤ most_total
small_directs entries small = rw (size_of-directs_of entries) small
