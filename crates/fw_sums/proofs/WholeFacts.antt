-- Lemmas on the sums of whole segments.
use Rattle.std.proofs.Common.{◌≡◌, ◌∙◌, ℕ, zero, suc, ◌+◌, ◌-◌, ◌<◌, ◌≤◌, ◌||◌, nat_le, Bool, true, false, Bor, List, [], ◌∷◌, ◌++◌, Some, All, length, map, take, drop, replicate, get_or, sym, ap, refl, subst, arith, append-nil, append_assoc}
use Rattle.std.specs.Prelude.{slice_get}
use Rattle.std.specs.Bool.{OnTrue}
use Rattle.std.specs.List.{AllByRecursion}
use Rattle.std.specs.List.Sorted.{IsPermutation}
use Rattle.std.proofs.Math.Seq.{drop-append-add, take-append_seam}
use Rattle.std.proofs.lemmas.Bool.{leb-true, leb-false}
use Rattle.std.proofs.lemmas.Grind.{flat_map-append}
use Rattle.std.proofs.lemmas.List.{get_or-replicate, length-append, length-replicate, map-append}
use Rattle.std.proofs.lemmas.List.Elements.{filter-append, recursion_from_All}
use Rattle.std.proofs.lemmas.List.Sorted.{IsPermutation-append_comm, IsPermutation-append_left, IsPermutation-append_right, IsPermutation-refl, IsPermutation-trans}
use Rattle.fw_charge.specs.Charge.{Charge, hour_of}
use Rattle.fw_cover.proofs.Sorting.{two_ways}
use Rattle.fw_sums.specs.Costs.{Cost}
use Rattle.fw_sums.specs.Hours.{all_rows, is_marked, lent, row_cost, rows_marked}
use Rattle.fw_sums.specs.Parts.{range_costs}
use Rattle.fw_sums.specs.Sums.{Counts}
use Rattle.fw_sums.specs.Wholes.{AreDivided, AreWholes, IsBetween, IsWhole, whole_at}
use Rattle.fw_sums.specs.declared.groups.Groups.{Groups}
use Rattle.fw_sums.specs.declared.wholes.Whole.{Whole}
use Rattle.fw_sums.specs.declared.wholes.Wholes.{Wholes}
use Rattle.fw_sums.proofs.HourFacts.{all_rows-more, lent_there}
use Rattle.fw_sums.proofs.MarkFacts.{marked_at, marked_before, marked_past}
use Rattle.fw_sums.proofs.MovedFacts.{Counts-moved}

-- ---- what rows bring that are of hours between these

between : (from to hour : ℕ) → from ≤ hour → hour < to → is_marked (replicate (to - from) true) from hour ≡ true
between from to hour since before =
    marked_at (replicate (to - from) true) from hour (hour - from) (omega (arith, since)) ∙ get_or-replicate (to - from) (hour - from) true false (omega (arith, since, before))

past : (from to hour : ℕ) → to ≤ hour → is_marked (replicate (to - from) true) from hour ≡ false
past from to hour late = two_ways (nat_le from hour)
    (λ begun.
    let since : from ≤ hour = leb-true _ _ begun in
    let long = length-replicate (to - from) true in
    marked_past (replicate (to - from) true) from hour (hour - from) (omega (arith, since)) (omega (arith, long, since, late)))
    (λ early.
    let before : hour < from = leb-false _ _ early in
    marked_before (replicate (to - from) true) from hour before)

-- all of them
pub whole_range : (key : List ℕ) (from to least most : ℕ) (rows : List Charge) → from ≤ least → most ≤ to → All (IsBetween least most) rows → range_costs key from to rows ≡ map (row_cost key) rows
whole_range key from to least most rows low high all = go rows (recursion_from_All (IsBetween least most) rows all)
  where
    go : (rows : List Charge) → AllByRecursion (IsBetween least most) rows → range_costs key from to rows ≡ map (row_cost key) rows
    go [] each = refl
    go (row ∷ rows) each =
        let since = each.0.since in
        let before = each.0.before in
        rw (between from to (hour_of row.start) (omega (arith, low, since)) (omega (arith, high, before))) (ap (λ l. row_cost key row ∷ l) (go rows each.1))

-- none of them
pub no_range : (key : List ℕ) (from to least most : ℕ) (rows : List Charge) → (nat_le most from || nat_le to least) ≡ true → All (IsBetween least most) rows → range_costs key from to rows ≡ []
no_range key from to least most rows apart all = go rows (recursion_from_All (IsBetween least most) rows all)
  where
    outside : (hour : ℕ) → least ≤ hour → hour < most → is_marked (replicate (to - from) true) from hour ≡ false
    outside hour since before = two_ways (nat_le most from)
        (λ early. let ends : most ≤ from = leb-true _ _ early in marked_before (replicate (to - from) true) from hour (omega (arith, ends, before)))
        (λ other. let late : to ≤ least = leb-true _ _ (rw other at apart) in past from to hour (omega (arith, late, since)))

    go : (rows : List Charge) → AllByRecursion (IsBetween least most) rows → range_costs key from to rows ≡ []
    go [] each = refl
    go (row ∷ rows) each = rw (outside (hour_of row.start) each.0.since each.0.before) (go rows each.1)

-- what follows from a test
pub on_true : {P : Type 0} (b : Bool) → (b ≡ true → P) → OnTrue b P
on_true true holds = holds refl
on_true false holds = tt

pub either_true : (a : Bool) → (a || true) ≡ true
either_true true = refl
either_true false = refl

-- ---- rows in turn

-- a segment's rows are those behind the rows of the segments before it
pub segment_there : (segments : List (List Charge)) (i : ℕ) (s : List Charge) → slice_get segments i ≡ Some s → take (length s) (drop (length (all_rows (take i segments))) (all_rows segments)) ≡ s
segment_there [] i s at = absurd (cc)
segment_there (x ∷ xs) zero s at = let same : x ≡ s = cc in rw (← same) (take-append_seam x (all_rows xs))
segment_there (x ∷ xs) (suc i) s at =
    ap (λ n. take (length s) (drop n (x ++ all_rows xs))) (length-append x (all_rows (take i xs)))
    ∙ ap (take (length s)) (drop-append-add x (all_rows xs) (length (all_rows (take i xs))))
    ∙ segment_there xs i s at

module _ (segments : List (Bor (List Charge))) (i : ℕ) (s : Bor (List Charge)) (below : i < length segments) (is : s ≡ get_or segments i s) where
  -- the rows with those of the next segment
  pub next_rows : all_rows (take (i + 1) (lent segments)) ≡ all_rows (take i (lent segments)) ++ s.now
  next_rows = all_rows-more (lent segments) i s.now (lent_there segments i s below is)

  module _ (first len : ℕ) (at : first ≡ length (all_rows (take i (lent segments)))) (long : len ≡ length s.now) where
    -- where the segment behind it begins
    pub next_first : (behind : ℕ) → behind ≡ first + len → behind ≡ length (all_rows (take (i + 1) (lent segments)))
    next_first behind more = more ∙ (λ j. at j + long j) ∙ sym (length-append (all_rows (take i (lent segments))) s.now) ∙ ap length (sym next_rows)

    -- its rows
    pub rows_here : take (length s.now) (drop first (all_rows (lent segments))) ≡ s.now
    rows_here = ap (λ n. take (length s.now) (drop n (all_rows (lent segments)))) at ∙ segment_there (lent segments) i s.now (lent_there segments i s below is)

    -- what is kept of them
    pub whole_here : (key : List ℕ) (wholes : Wholes) (whole : Whole) → AreWholes key (all_rows (lent segments)) wholes → whole.len ≡ len → whole_at wholes first ≡ Some whole → IsWhole key s.now whole
    whole_here key wholes whole are many there =
        let own : IsWhole key (take whole.len (drop first (all_rows (lent segments)))) whole = rw there at (are first) in
        subst (λ rows. IsWhole key rows whole) (ap (λ n. take n (drop first (all_rows (lent segments)))) (many ∙ long) ∙ rows_here) own

-- one more segment that references lend
pub lent_more : (others : List (Bor (List Charge))) (s : Bor (List Charge)) → all_rows (lent (others ++ s ∷ [])) ≡ all_rows (lent others) ++ s.now
lent_more others s =
    ap all_rows (map-append (λ (x : Bor (List Charge)). x.now) others (s ∷ []))
    ∙ flat_map-append (λ (rows : List Charge). rows) (lent others) (s.now ∷ [])
    ∙ ap (λ l. all_rows (lent others) ++ l) (append-nil s.now)

-- ---- rows of which some are counted

module _ (key : List ℕ) (from to : ℕ) where
  range_more : (rows segment : List Charge) → range_costs key from to (rows ++ segment) ≡ range_costs key from to rows ++ range_costs key from to segment
  range_more rows segment =
      ap (map (row_cost key)) (filter-append (λ row. is_marked (replicate (to - from) true) from (hour_of row.start)) rows segment)
      ∙ map-append (row_cost key) (rows_marked (replicate (to - from) true) from rows) (rows_marked (replicate (to - from) true) from segment)

  -- none yet
  pub divided_none : (groups : Groups) → Counts groups [] → AreDivided key from to [] groups []
  divided_none groups counts = record { costs = []; counts = counts; divided = IsPermutation-refl [] }

  module _ (rows segment others : List Charge) (old : Groups) (so_far : AreDivided key from to rows old others) where
    -- a segment whose sums are added
    pub divided_whole : (new sums : Groups) → range_costs key from to segment ≡ map (row_cost key) segment → Counts sums (map (row_cost key) segment)
        → ((costs more : List Cost) → Counts old costs → Counts sums more → Counts new (costs ++ more)) → AreDivided key from to (rows ++ segment) new others
    divided_whole new sums whole counts added =
        let c = so_far.costs in
        let o = range_costs key from to others in
        let m = map (row_cost key) segment in
        let turned : IsPermutation (c ++ (m ++ o)) (c ++ (o ++ m)) = IsPermutation-append_right c (m ++ o) (o ++ m) (IsPermutation-append_comm m o) in
        let before : IsPermutation ((c ++ o) ++ m) (range_costs key from to rows ++ m) = IsPermutation-append_left m (c ++ o) (range_costs key from to rows) so_far.divided in
        let last : IsPermutation (c ++ (o ++ m)) (range_costs key from to rows ++ m) = subst (λ l. IsPermutation l (range_costs key from to rows ++ m)) (append_assoc c o m) before in
        let both : IsPermutation (c ++ (m ++ o)) (range_costs key from to rows ++ m) = IsPermutation-trans (c ++ (m ++ o)) (c ++ (o ++ m)) (range_costs key from to rows ++ m) turned last in
        let all : range_costs key from to (rows ++ segment) ≡ range_costs key from to rows ++ m = range_more rows segment ∙ ap (λ l. range_costs key from to rows ++ l) whole in
        record {
          costs = c ++ m;
          counts = added c m so_far.counts counts;
          divided = rw (all, append_assoc c m o) both;
        }

    -- one without rows in these hours
    pub divided_without : range_costs key from to segment ≡ [] → AreDivided key from to (rows ++ segment) old others
    divided_without none =
        let all : range_costs key from to (rows ++ segment) ≡ range_costs key from to rows = range_more rows segment ∙ ap (λ l. range_costs key from to rows ++ l) none ∙ append-nil (range_costs key from to rows) in
        record { costs = so_far.costs; counts = so_far.counts; divided = rw all so_far.divided }

    -- one that is left to be counted
    pub divided_other : AreDivided key from to (rows ++ segment) old (others ++ segment)
    divided_other =
        let c = so_far.costs in
        let o = range_costs key from to others in
        let m = range_costs key from to segment in
        let before : IsPermutation ((c ++ o) ++ m) (range_costs key from to rows ++ m) = IsPermutation-append_left m (c ++ o) (range_costs key from to rows) so_far.divided in
        record { costs = c; counts = so_far.counts; divided = rw (range_more rows segment, range_more others segment, ← append_assoc c o m) before }

  -- and when the others are counted, all are
  pub divided_all : (rows others : List Charge) (old rest new : Groups) → AreDivided key from to rows old others → Counts rest (range_costs key from to others)
      → ((costs more : List Cost) → Counts old costs → Counts rest more → Counts new (costs ++ more)) → Counts new (range_costs key from to rows)
  divided_all rows others old rest new divided counts added =
      Counts-moved new [] (divided.costs ++ range_costs key from to others) (range_costs key from to rows) divided.divided (added divided.costs (range_costs key from to others) divided.counts counts)
