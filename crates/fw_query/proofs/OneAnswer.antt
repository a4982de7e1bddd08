-- A query of a history has one answer.
use Rattle.std.proofs.Common.{◌≡◌, ◌∙◌, ℕ, ◌+◌, ◌≤◌, ◌<◌, ℤ, Bool, true, false, Option, Some, None, List, [], ◌∷◌, ◌++◌, sym, ap, subst, arith}
use Rattle.std.specs.Prelude.{unsigned_abs}
use Rattle.std.specs.Bool.{MatchBool}
use Rattle.std.specs.Str.{bytes_eq}
use Rattle.std.proofs.lemmas.List.Sums.{sum_by-append, sum_by-cons}
use Rattle.fw_charge.specs.Charge.{Charge}
use Rattle.fw_terms.specs.Commitment.{CommitmentValue}
use Rattle.fw_terms.specs.Policy.{PolicyValue}
use Rattle.fw_allocate.specs.Charges.{AreCharges}
use Rattle.fw_allocate.specs.Costs.{CostValue, size_of}
use Rattle.fw_allocate.proofs.Unique.{charges_same, rising_same}
use Rattle.fw_amortise.specs.LineValue.{LineValue}
use Rattle.fw_amortise.specs.Lines.{AreLines}
use Rattle.fw_amortise.proofs.OneList.{AllZip-same, lines_same}
use Rattle.std.specs.List.{range_with_len}
use Rattle.std.specs.Prelude.{◌-◌}
use Rattle.std.specs.Prelude.{Result, Ok, Err, string_bytes}
use Rattle.fw_entry.specs.Entry as entry
use Rattle.fw_snapshot.specs.History.{commitments_of, policy_of, rows_of}
use Rattle.fw_query.specs.OfHistory.{AreLinesOf}
use Rattle.fw_query.specs.Texts.{lines_text}
use Rattle.fw_query.specs.OneAnswer.{IsAnswer, IsSameAnswer}
use Rattle.fw_query.specs.declared.fault.QueryFault.{QueryFault}
use Rattle.fw_query.specs.declared.fault.QueryFault.TheVariants as fault
use Rattle.fw_sums.specs.Costs.{AreGroups, Cost, costs_of}
use Rattle.fw_query.specs.Reports.{AreChargedBy, EntryValue, IsReport, IsReportOf, IsTooLarge, PassesIn, direct_costs, entries_of}
use Rattle.fw_query.specs.Limits.{PassesAt, most_total}
use Rattle.fw_sums.specs.RangeLines.{AreRangeLines, joined}

-- ---- lines
pub range_lines_same : (cs : List CommitmentValue) (rows : List Charge) (from to : ℕ) (xs ys : List LineValue) → AreRangeLines cs rows from to xs → AreRangeLines cs rows from to ys → xs ≡ ys
range_lines_same cs rows from to xs ys a b =
    a.lines_are
    ∙ ap joined (AllZip-same (AreLines cs rows) (λ hour x y p q. lines_same cs rows hour x y p q) (range_with_len from (to - from)) a.hourly b.hourly a.are_hourly b.are_hourly)
    ∙ sym b.lines_are

-- ---- reports
groups_same : (costs : List Cost) (a b : List (List ℕ)) → AreGroups costs a → AreGroups costs b → a ≡ b
groups_same costs a b p q =
    rising_same a b p.rising q.rising (λ g c. (q.each g).1 ((p.each g).0 c)) (λ g c. (p.each g).1 ((q.each g).0 c))

charged_same : (policy : Option PolicyValue) (key : List ℕ) (direct a b : List CostValue) → AreChargedBy policy key direct a → AreChargedBy policy key direct b → a ≡ b
charged_same None key direct a b p q = p ∙ sym q
charged_same (Some policy) key direct a b p q = by (bytes_eq policy.key key) p q
  where
    by : (same : Bool) → MatchBool same (AreCharges direct policy.rules a) (a ≡ direct) → MatchBool same (AreCharges direct policy.rules b) (b ≡ direct) → a ≡ b
    by true x y = charges_same direct policy.rules a b x y
    by false x y = x ∙ sym y

report_of_same : (policy : Option PolicyValue) (key : List ℕ) (lines : List LineValue) (a b : List EntryValue) → IsReportOf policy key lines a → IsReportOf policy key lines b → a ≡ b
report_of_same policy key lines a b p q =
    let groups : p.groups ≡ q.groups = groups_same (costs_of key lines) p.groups q.groups p.are_groups q.are_groups in
    let mine : AreChargedBy policy key (direct_costs (costs_of key lines) q.groups) p.charged = subst (λ gs. AreChargedBy policy key (direct_costs (costs_of key lines) gs) p.charged) groups p.are_charged in
    p.entries_are
    ∙ ap (entries_of (costs_of key lines)) (charged_same policy key (direct_costs (costs_of key lines) q.groups) p.charged q.charged mine q.are_charged)
    ∙ sym q.entries_are

pub report_same : (cs : List CommitmentValue) (rows : List Charge) (policy : Option PolicyValue) (key : List ℕ) (from to : ℕ) (a b : List EntryValue) → IsReport cs rows policy key from to a → IsReport cs rows policy key from to b → a ≡ b
report_same cs rows policy key from to a b p q =
    let same : p.lines ≡ q.lines = range_lines_same cs rows from to p.lines q.lines p.are_lines q.are_lines in
    report_of_same policy key q.lines a b (subst (λ ls. IsReportOf policy key ls a) same p.is_report) q.is_report

-- ---- where the costs pass the most
size_cons : (c : CostValue) (costs : List CostValue) → size_of (c ∷ costs) ≡ unsigned_abs c.cost + size_of costs
size_cons c costs = sum_by-cons (λ (x : CostValue). unsigned_abs x.cost) c costs

-- costs that pass the most somewhere are more than the most
passes_size : (g : List ℕ) (costs : List CostValue) → PassesAt g costs → most_total < size_of costs
passes_size g costs p =
    let all : size_of costs ≡ size_of p.before + size_of (record { group = g; cost = p.cost } ∷ p.after) =
    ap size_of p.split ∙ sum_by-append (λ (x : CostValue). unsigned_abs x.cost) p.before (record { group = g; cost = p.cost } ∷ p.after) in
    let here = size_cons (record { group = g; cost = p.cost }) p.after in
    let past = p.past in
    omega arith

-- two lists are split at the same cost, where both pass the most there, beside a sum before both
same_split : (sum : ℕ) (g h : List ℕ) (a b : List CostValue) (x y : ℤ) (us vs : List CostValue)
    → a ++ (record { group = g; cost = x } ∷ us) ≡ b ++ (record { group = h; cost = y } ∷ vs)
    → sum + size_of a ≤ most_total → most_total < sum + size_of a + unsigned_abs x → sum + size_of b ≤ most_total → most_total < sum + size_of b + unsigned_abs y → g ≡ h
same_split sum g h [] [] x y us vs e wa pa wb pb =
    let first : record { group = g; cost = x } ≡ record { group = h; cost = y } = cc in
    ap (λ (z : CostValue). z.group) first
same_split sum g h [] (c ∷ b) x y us vs e wa pa wb pb =
    let first : record { group = g; cost = x } ≡ c = cc in
    let same : unsigned_abs x ≡ unsigned_abs c.cost = ap (λ (z : CostValue). unsigned_abs z.cost) first in
    let whole = size_cons c b in
    absurd (omega arith)
same_split sum g h (c ∷ a) [] x y us vs e wa pa wb pb =
    let first : c ≡ record { group = h; cost = y } = cc in
    let same : unsigned_abs c.cost ≡ unsigned_abs y = ap (λ (z : CostValue). unsigned_abs z.cost) first in
    let whole = size_cons c a in
    absurd (omega arith)
same_split sum g h (c ∷ a) (d ∷ b) x y us vs e wa pa wb pb =
    let first : c ≡ d = cc in
    let rest : a ++ (record { group = g; cost = x } ∷ us) ≡ b ++ (record { group = h; cost = y } ∷ vs) = cc in
    let same : unsigned_abs c.cost ≡ unsigned_abs d.cost = ap (λ (z : CostValue). unsigned_abs z.cost) first in
    let wholea = size_cons c a in
    let wholeb = size_cons d b in
    same_split (sum + unsigned_abs c.cost) g h a b x y us vs rest (omega arith) (omega arith) (omega arith) (omega arith)

passes_same : (g h : List ℕ) (costs : List CostValue) → PassesAt g costs → PassesAt h costs → g ≡ h
passes_same g h costs p q =
    let wp = p.within in let pp = p.past in let wq = q.within in let pq = q.past in
    same_split 0 g h p.before q.before p.cost q.cost p.after q.after (sym p.split ∙ q.split) (omega arith) (omega arith) (omega arith) (omega arith)

-- one group is the first
pub too_large_same : (cs : List CommitmentValue) (rows : List Charge) (key : List ℕ) (from to : ℕ) (g h : List ℕ) → IsTooLarge cs rows key from to g → IsTooLarge cs rows key from to h → g ≡ h
too_large_same cs rows key from to g h p q =
    let same : p.lines ≡ q.lines = range_lines_same cs rows from to p.lines q.lines p.are_lines q.are_lines in
    let mine : PassesIn (costs_of key q.lines) g = subst (λ ls. PassesIn (costs_of key ls) g) same p.passes in
    let groups : mine.groups ≡ q.passes.groups = groups_same (costs_of key q.lines) mine.groups q.passes.groups mine.are_groups q.passes.are_groups in
    passes_same g h (direct_costs (costs_of key q.lines) q.passes.groups) (subst (λ gs. PassesAt g (direct_costs (costs_of key q.lines) gs)) groups mine.passes) q.passes.passes

-- there is a report only where the costs don't pass the most
pub not_both : (cs : List CommitmentValue) (rows : List Charge) (policy : Option PolicyValue) (key : List ℕ) (from to : ℕ) (a : List EntryValue) (g : List ℕ) → IsReport cs rows policy key from to a → IsTooLarge cs rows key from to g → ⊥
not_both cs rows policy key from to a g p q =
    let same : p.lines ≡ q.lines = range_lines_same cs rows from to p.lines q.lines p.are_lines q.are_lines in
    let mine : IsReportOf policy key q.lines a = subst (λ ls. IsReportOf policy key ls a) same p.is_report in
    let groups : mine.groups ≡ q.passes.groups = groups_same (costs_of key q.lines) mine.groups q.passes.groups mine.are_groups q.passes.are_groups in
    let within : size_of (direct_costs (costs_of key q.lines) q.passes.groups) ≤ most_total = subst (λ gs. size_of (direct_costs (costs_of key q.lines) gs) ≤ most_total) groups mine.within in
    let past : most_total < size_of (direct_costs (costs_of key q.lines) q.passes.groups) = passes_size g (direct_costs (costs_of key q.lines) q.passes.groups) q.passes.passes in
    omega arith

-- ---- answers
pub answer_same : (history : List entry.EntryValue) (key : List ℕ) (from to : ℕ) (a b : Result (List EntryValue) QueryFault) → IsAnswer history key from to a → IsAnswer history key from to b → IsSameAnswer a b
answer_same history key from to (Ok a) (Ok b) p q = report_same (commitments_of history) (rows_of history) (policy_of history) key from to a b p.report q.report
answer_same history key from to (Ok a) (Err fault.Range) p q = absurd (q.fault p.range)
answer_same history key from to (Ok a) (Err (fault.TotalTooLarge g)) p q = not_both (commitments_of history) (rows_of history) (policy_of history) key from to a (string_bytes g) p.report q.fault.1
answer_same history key from to (Ok a) (Err fault.NoMemory) p q = tt
answer_same history key from to (Err fault.Range) (Ok b) p q = absurd (p.fault q.range)
answer_same history key from to (Err (fault.TotalTooLarge g)) (Ok b) p q = not_both (commitments_of history) (rows_of history) (policy_of history) key from to b (string_bytes g) q.report p.fault.1
answer_same history key from to (Err fault.NoMemory) (Ok b) p q = tt
answer_same history key from to (Err fault.Range) (Err fault.Range) p q = tt
answer_same history key from to (Err fault.Range) (Err (fault.TotalTooLarge h)) p q = absurd (p.fault q.fault.0)
answer_same history key from to (Err fault.Range) (Err fault.NoMemory) p q = tt
answer_same history key from to (Err (fault.TotalTooLarge g)) (Err fault.Range) p q = absurd (q.fault p.fault.0)
answer_same history key from to (Err (fault.TotalTooLarge g)) (Err (fault.TotalTooLarge h)) p q = too_large_same (commitments_of history) (rows_of history) key from to (string_bytes g) (string_bytes h) p.fault.1 q.fault.1
answer_same history key from to (Err (fault.TotalTooLarge g)) (Err fault.NoMemory) p q = tt
answer_same history key from to (Err fault.NoMemory) (Err fault.Range) p q = tt
answer_same history key from to (Err fault.NoMemory) (Err (fault.TotalTooLarge h)) p q = tt
answer_same history key from to (Err fault.NoMemory) (Err fault.NoMemory) p q = tt

pub lines_of_same : (history : List entry.EntryValue) (from to : ℕ) (a b : List LineValue) → AreLinesOf history from to a → AreLinesOf history from to b → a ≡ b
lines_of_same history from to a b p q = range_lines_same (commitments_of history) (rows_of history) from to a b p q

pub texts_of_same : (history : List entry.EntryValue) (from to : ℕ) (a b : List LineValue) (s t : List ℕ) → AreLinesOf history from to a → AreLinesOf history from to b → s ≡ lines_text a → t ≡ lines_text b → s ≡ t
texts_of_same history from to a b s t p q is_s is_t = is_s ∙ ap lines_text (lines_of_same history from to a b p q) ∙ sym is_t
