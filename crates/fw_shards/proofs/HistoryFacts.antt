-- The reports of shards, added up, are the report of the one warehouse.
use Rattle.std.proofs.Common.{◌≡◌, ◌∙◌, ◌≤◌, ℕ, ℤ, All, Bool, false, IfSome, List, [], ◌∷◌, ◌++◌, None, Option, Some, map, refl, sym, ap, subst}
use Rattle.std.specs.Bool.{MatchBool}
use Rattle.std.specs.Str.{bytes_eq}
use Rattle.fw_allocate.specs.Charges.{AreCharges}
use Rattle.fw_allocate.specs.Costs.{CostValue, size_of, total}
use Rattle.fw_amortise.specs.LineValue.{LineValue}
use Rattle.fw_entry.specs.Entry as entry
use Rattle.fw_query.specs.Limits.{PassesAt, most_total}
use Rattle.fw_query.specs.OfHistory.{AreLinesOf}
use Rattle.fw_query.specs.Reports.{AreChargedBy, EntryValue, IsReport, IsTooLarge, PassesIn, direct_costs, entries_of}
use Rattle.fw_shards.specs.Added.{AreDirectOnEach, IsDirectOn, all_of, direct_of, directs}
use Rattle.fw_shards.specs.Asked.{AreLinesOfEach, AskedValue, IsAskedWithin}
use Rattle.fw_shards.proofs.AlikeFacts.{alike-append, alike-itself, alike-joined, alike-lines, alike-sym, alike-totals, alike-trans, directs-alike, directs-totals, entries-alike, groups-alike, sum-each, totals-alike}
use Rattle.fw_shards.proofs.RangeFacts.{AddUp, range_adds}
use Rattle.fw_snapshot.specs.History.{commitments_of, rows_of}
use Rattle.fw_sums.specs.Costs.{Cost, costs_of, sum_in}
use Rattle.fw_sums.specs.RangeLines.{joined}
use Rattle.fw_sums.specs.Totals.{AreTotals, HasTotals, total_of}
use Rattle.fw_sums.proofs.SameFacts.{BringSame}
use Rattle.fw_charge.specs.Charge.{Charge}
use Rattle.fw_terms.specs.Commitment.{CommitmentValue}
use Rattle.fw_terms.specs.Policy.{PolicyValue}

-- ---- the lines that the shards' reports sum
reported : (key : List ℕ) (asked : List AskedValue) (reports : List (List Cost)) → AreDirectOnEach key asked reports
    → (each : List (List LineValue)) × AreLinesOfEach asked each × BringSame (costs_of key (joined each)) (all_of reports)
reported key [] [] are = ([], tt, alike-itself [])
reported key [] (r ∷ reports) are = absurd are
reported key (a ∷ asked) [] are = absurd are
reported key (a ∷ asked) (r ∷ reports) are =
    let rest = reported key asked reports are.1 in
    let lines : List LineValue = are.0.lines in (
      lines ∷ rest.0,
      (are.0.are_lines, rest.1),
      alike-trans (costs_of key (lines ++ joined rest.0)) (costs_of key lines ++ costs_of key (joined rest.0)) (r ++ all_of reports)
          (alike-joined key lines (joined rest.0))
          (alike-append (costs_of key lines) r (costs_of key (joined rest.0)) (all_of reports) (alike-totals (costs_of key lines) r are.0.are_totals) rest.2),
    )

module _ (whole : List entry.EntryValue) (from to : ℕ) (asked : List AskedValue) (within : All (IsAskedWithin from to) asked) (add : AddUp whole from to asked) where
  -- ---- the sums of each group
  pub sums_add : (amount : Cost → ℤ) (key : List ℕ) (lines : List LineValue) (each : List (List LineValue)) → ((xs ys : List Cost) → BringSame xs ys → (g : List ℕ) → sum_in amount xs g ≡ sum_in amount ys g)
      → AreLinesOf whole from to lines → AreLinesOfEach asked each → (g : List ℕ) → sum_in amount (costs_of key lines) g ≡ total (map (λ ls. sum_in amount (costs_of key ls) g) each)
  sums_add amount key lines each same are each_are g =
      sym (same (costs_of key (joined each)) (costs_of key lines) (alike-lines key (joined each) lines (range_adds whole from to asked lines each within add are each_are)) g)
      ∙ sum-each amount key each g

  -- ---- the report
  all_alike : (key : List ℕ) (lines : List LineValue) (reports : List (List Cost)) → AreLinesOf whole from to lines → AreDirectOnEach key asked reports → BringSame (all_of reports) (costs_of key lines)
  all_alike key lines reports are direct =
      let own = reported key asked reports direct in
      alike-trans (all_of reports) (costs_of key (joined own.0)) (costs_of key lines)
      (alike-sym (costs_of key (joined own.0)) (all_of reports) own.2)
      (alike-lines key (joined own.0) lines (range_adds whole from to asked lines own.0 within add are own.1))

  pub added_direct : (key : List ℕ) (lines : List LineValue) (reports : List (List Cost)) (sum : List Cost) → AreLinesOf whole from to lines → AreDirectOnEach key asked reports → AreTotals (all_of reports) sum
      → IsDirectOn whole key from to sum
  added_direct key lines reports sum are direct totals = record {
    lines = lines;
    are_lines = are;
    are_totals = totals-alike (all_of reports) (costs_of key lines) sum (all_alike key lines reports are direct) totals;
  }

  pub added_report : (policy : Option PolicyValue) (key : List ℕ) (lines : List LineValue) (reports : List (List Cost)) (sum : List Cost) (charged : List CostValue) → AreLinesOf whole from to lines
      → AreDirectOnEach key asked reports → AreTotals (all_of reports) sum → size_of (directs sum) ≤ most_total → AreChargedBy policy key (directs sum) charged
      → IsReport (commitments_of whole) (rows_of whole) policy key from to (entries_of sum charged)
  added_report policy key lines reports sum charged are direct totals small by =
      let costs : List Cost = costs_of key lines in
      let alike : BringSame (all_of reports) costs = all_alike key lines reports are direct in
      let same : directs sum ≡ direct_costs costs totals.groups =
      ap directs totals.totals_are ∙ directs-totals (all_of reports) totals.groups ∙ directs-alike (all_of reports) costs alike totals.groups in
      let whole_alike : BringSame sum costs = alike-trans sum (all_of reports) costs (alike-sym (all_of reports) sum (alike-totals (all_of reports) sum totals)) alike in
      record {
        lines = lines;
        are_lines = are;
        is_report = record {
          groups = totals.groups;
          are_groups = groups-alike (all_of reports) costs totals.groups alike totals.are_groups;
          within = subst (λ (ds : List CostValue). size_of ds ≤ most_total) same small;
          charged = charged;
          are_charged = subst (λ (ds : List CostValue). AreChargedBy policy key ds charged) same by;
          entries_are = entries-alike sum costs whole_alike charged;
        };
      }

  pub added_too_large : (key : List ℕ) (lines : List LineValue) (reports : List (List Cost)) (group : List ℕ) → AreLinesOf whole from to lines → AreDirectOnEach key asked reports → PassesIn (all_of reports) group
      → IsTooLarge (commitments_of whole) (rows_of whole) key from to group
  added_too_large key lines reports group are direct passes =
      let costs : List Cost = costs_of key lines in
      let alike : BringSame (all_of reports) costs = all_alike key lines reports are direct in
      record {
        lines = lines;
        are_lines = are;
        passes = record {
          groups = passes.groups;
          are_groups = groups-alike (all_of reports) costs passes.groups alike passes.are_groups;
          passes = subst (λ (ds : List CostValue). PassesAt group ds) (directs-alike (all_of reports) costs alike passes.groups) passes.passes;
        };
      }

-- ---- a report under no policy
not_charged : (policy : Option PolicyValue) (key : List ℕ) (direct charged : List CostValue) → IfSome policy (λ p. bytes_eq p.key key ≡ false) → AreChargedBy policy key direct charged → charged ≡ direct
not_charged None key direct charged other by = by
not_charged (Some policy) key direct charged other by = subst (λ (b : Bool). MatchBool b (AreCharges direct policy.rules charged) (charged ≡ direct)) other by

direct_totals : (costs : List Cost) (gs : List (List ℕ)) → map direct_of (entries_of costs (direct_costs costs gs)) ≡ map (total_of costs) gs
unfolding direct_costs entries_of
direct_totals costs [] = refl
direct_totals costs (g ∷ gs) = let rest = direct_totals costs gs in ap (λ l. total_of costs g ∷ l) rest

pub report_is_direct : (cs : List CommitmentValue) (rows : List Charge) (policy : Option PolicyValue) (key : List ℕ) (from to : ℕ) (report : List EntryValue) → IfSome policy (λ p. bytes_eq p.key key ≡ false)
    → IsReport cs rows policy key from to report → HasTotals cs rows key from to (map direct_of report)
report_is_direct cs rows policy key from to report other is =
    let costs : List Cost = costs_of key is.lines in
    let of_lines = is.is_report in
    let same : of_lines.charged ≡ direct_costs costs of_lines.groups = not_charged policy key (direct_costs costs of_lines.groups) of_lines.charged other of_lines.are_charged in
    record {
      lines = is.lines;
      are_lines = is.are_lines;
      are_totals = record {
        groups = of_lines.groups;
        are_groups = of_lines.are_groups;
        totals_are = ap (map direct_of) (of_lines.entries_are ∙ ap (entries_of costs) same) ∙ direct_totals costs of_lines.groups;
      };
    }
