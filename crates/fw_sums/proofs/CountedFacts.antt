-- The rows of all hours are counted first, and then hour by hour what their lines bring.
use Rattle.std.proofs.Common.{◌≡◌, ◌∙◌, ℕ, ◌+◌, ◌<◌, Bool, true, false, List, [], ◌∷◌, ◌++◌, length, map, drop, replicate, get_or, sym, ap, refl, subst, arith, append-nil, append_assoc}
use Rattle.std.specs.Prelude.{MatchBool}
use Rattle.std.specs.List.{range_with_len}
use Rattle.std.specs.List.Sorted.{IsPermutation}
use Rattle.std.proofs.lemmas.Bool.{MatchBool-at_false, MatchBool-at_true}
use Rattle.std.proofs.lemmas.List.{drop_all, length-replicate, map-append}
use Rattle.std.proofs.lemmas.List.FromFn.{length-map-range_with_len, map-range_with_len_more}
use Rattle.std.proofs.lemmas.List.Sorted.{IsPermutation-append_comm, IsPermutation-append_left, IsPermutation-map, IsPermutation-sym, IsPermutation-trans}
use Rattle.fw_charge.specs.Charge.{Charge}
use Rattle.fw_cover.proofs.Sorting.{two_ways}
use Rattle.fw_terms.specs.Commitment.{CommitmentValue}
use Rattle.fw_amortise.specs.Lines.{rows_in}
use Rattle.fw_sums.specs.Costs.{Cost, costs_of}
use Rattle.fw_sums.specs.Hours.{AreTouched, is_touched, row_cost, rows_marked}
use Rattle.fw_sums.specs.RangeLines.{joined}
use Rattle.fw_sums.specs.Sums.{Counts, CountsHour, CountsHours}
use Rattle.fw_sums.specs.declared.groups.Groups.{Groups}
use Rattle.fw_sums.proofs.MarkFacts.{every_at, no_marks, rows_first, touched_at}
use Rattle.fw_sums.proofs.MovedFacts.{Counts-moved}
use Rattle.fw_sums.proofs.RangeFacts.{CountsHours-more}
use Rattle.fw_sums.proofs.UntouchedFacts.{are_plain, plain_costs, plain_lines}

-- what the rows of marked hours bring
abbrev pub marked_costs : List ℕ → List Bool → ℕ → List Charge → List Cost
marked_costs key marks from rows = map (row_cost key) (rows_marked marks from rows)

-- the rows of so many hours, hour by hour
abbrev pub hours_of : List Charge → ℕ → ℕ → List (List Charge)
hours_of rows from n = map (λ h. rows_in h rows) (range_with_len from n)

-- before the first hour
pub no_hour_yet : (groups : Groups) (key : List ℕ) (cs : List CommitmentValue) (rows : List Charge) (others : List Bool) (from first : ℕ) → first ≡ from → Counts groups (marked_costs key others from rows)
    → CountsHours groups (marked_costs key others first rows) key cs [] from
no_hour_yet groups key cs rows others from first same counts = record { hourly = []; are_hourly = tt; counts = rw (append-nil (marked_costs key others first rows), same) counts }

-- an hour more
hour_more : (new : Groups) (before : List Cost) (key : List ℕ) (cs : List CommitmentValue) (rows : List Charge) (from n : ℕ) (old : Groups) (past : List Cost) (counted : CountsHours old past key cs (hours_of rows from n) from)
    → CountsHour new (before ++ costs_of key (joined counted.hourly)) key cs (rows_in (from + n) rows) (from + n) → CountsHours new before key cs (hours_of rows from (n + 1)) from
hour_more new before key cs rows from n old past counted more =
    let long : from + n ≡ from + length (hours_of rows from n) = ap (λ k. from + k) (sym (length-map-range_with_len (λ h. rows_in h rows) from n)) in
    subst (λ l. CountsHours new before key cs l from) (sym (map-range_with_len_more (λ h. rows_in h rows) from n (from + n) refl))
    (CountsHours-more new before key cs (hours_of rows from n) counted.hourly (rows_in (from + n) rows) from (from + n) counted.are_hourly long more)

-- the rows of the next hour, counted last
hour_last : (old : Groups) (key : List ℕ) (rows : List Charge) (later : List Bool) (hour : ℕ) (lines : List Cost) → Counts old (marked_costs key (true ∷ later) hour rows ++ lines)
    → Counts old ((marked_costs key later (hour + 1) rows ++ lines) ++ map (row_cost key) (rows_in hour rows))
hour_last old key rows later hour lines counts =
    let all = marked_costs key (true ∷ later) hour rows in
    let others = marked_costs key later (hour + 1) rows in
    let own = map (row_cost key) (rows_in hour rows) in
    let split : IsPermutation (own ++ others) all =
    subst (λ l. IsPermutation l all) (map-append (row_cost key) (rows_in hour rows) (rows_marked later (hour + 1) rows))
    (IsPermutation-map (row_cost key) (rows_in hour rows ++ rows_marked later (hour + 1) rows) (rows_marked (true ∷ later) hour rows) (rows_first later hour rows)) in
    let apart : IsPermutation (all ++ lines) (own ++ (others ++ lines)) =
    subst (λ l. IsPermutation (all ++ lines) l) (append_assoc own others lines) (IsPermutation-append_left lines all (own ++ others) (IsPermutation-sym (own ++ others) all split)) in
    let moved : IsPermutation (all ++ lines) ((others ++ lines) ++ own) =
    IsPermutation-trans (all ++ lines) (own ++ (others ++ lines)) ((others ++ lines) ++ own) apart (IsPermutation-append_comm own (others ++ lines)) in
    Counts-moved old [] (all ++ lines) ((others ++ lines) ++ own) moved counts

-- in an untouched hour they are what its lines bring
plain_hour : (old : Groups) (key : List ℕ) (cs : List CommitmentValue) (rows : List Charge) (hour : ℕ) (before : List Cost) → is_touched cs hour ≡ false → Counts old (before ++ map (row_cost key) rows) → CountsHour old before key cs rows hour
plain_hour old key cs rows hour before untouched counts = record {
  lines = plain_lines rows hour;
  are_lines = are_plain cs rows hour untouched;
  counts = Counts-moved old before (map (row_cost key) rows) (costs_of key (plain_lines rows hour)) (plain_costs key rows hour) counts;
}

-- the next hour, touched or not
pub next_hour : (old new : Groups) (key : List ℕ) (cs : List CommitmentValue) (rows : List Charge) (touched : List Bool) (from n i : ℕ) → i < n → AreTouched cs from n touched
    → CountsHours old (marked_costs key (drop i (replicate n true)) (from + i) rows) key cs (hours_of rows from i) from
    → MatchBool (get_or touched i false)
    ((costs : List Cost) → Counts old (costs ++ map (row_cost key) (rows_in (from + i) rows)) → CountsHour new costs key cs (rows_in (from + i) rows) (from + i))
    (new ≡ old)
    → CountsHours new (marked_costs key (drop (i + 1) (replicate n true)) (from + (i + 1)) rows) key cs (hours_of rows from (i + 1)) from
next_hour old new key cs rows touched from n i below are counted step =
    let later = drop (i + 1) (replicate n true) in
    let next : from + (i + 1) ≡ (from + i) + 1 = omega arith in
    let lines = costs_of key (joined counted.hourly) in
    let before = marked_costs key later ((from + i) + 1) rows ++ lines in
    let first : Counts old (marked_costs key (true ∷ later) (from + i) rows ++ lines) = subst (λ l. Counts old (marked_costs key l (from + i) rows ++ lines)) (every_at n i below) counted.counts in
    let last : Counts old (before ++ map (row_cost key) (rows_in (from + i) rows)) = hour_last old key rows later (from + i) lines first in
    let more : CountsHour new before key cs (rows_in (from + i) rows) (from + i) = two_ways (get_or touched i false)
    (λ yes.
    let adds : (costs : List Cost) → Counts old (costs ++ map (row_cost key) (rows_in (from + i) rows)) → CountsHour new costs key cs (rows_in (from + i) rows) (from + i) =
    MatchBool-at_true
    ((costs : List Cost) → Counts old (costs ++ map (row_cost key) (rows_in (from + i) rows)) → CountsHour new costs key cs (rows_in (from + i) rows) (from + i))
    (new ≡ old) yes step in
    adds before last)
    (λ no.
    let stays : new ≡ old =
    MatchBool-at_false
    ((costs : List Cost) → Counts old (costs ++ map (row_cost key) (rows_in (from + i) rows)) → CountsHour new costs key cs (rows_in (from + i) rows) (from + i))
    (new ≡ old) no step in
    let untouched : is_touched cs (from + i) ≡ false = sym (touched_at cs from n touched i are below) ∙ no in
    subst (λ g. CountsHour g before key cs (rows_in (from + i) rows) (from + i)) (sym stays) (plain_hour old key cs (rows_in (from + i) rows) (from + i) before untouched last)) in
    hour_more new (marked_costs key later (from + (i + 1)) rows) key cs rows from i old (marked_costs key (drop i (replicate n true)) (from + i) rows) counted
    (subst (λ h. CountsHour new (marked_costs key later h rows ++ lines) key cs (rows_in (from + i) rows) (from + i)) (sym next) more)

-- after the last hour nothing is left of the rows that were counted first
pub all_hours : (groups : Groups) (key : List ℕ) (cs : List CommitmentValue) (rows : List Charge) (from n i : ℕ) → i ≡ n
    → CountsHours groups (marked_costs key (drop i (replicate n true)) (from + i) rows) key cs (hours_of rows from i) from → CountsHours groups [] key cs (hours_of rows from n) from
all_hours groups key cs rows from n i end counted =
    let none : drop i (replicate n true) ≡ [] = drop_all i (replicate n true) (rw (length-replicate n true) (omega (arith, end))) in
    let nothing : marked_costs key (drop i (replicate n true)) (from + i) rows ≡ [] = ap (λ l. marked_costs key l (from + i) rows) none ∙ ap (map (row_cost key)) (no_marks rows (from + i)) in
    subst (λ k. CountsHours groups [] key cs (hours_of rows from k) from) end (subst (λ b. CountsHours groups b key cs (hours_of rows from i) from) nothing counted)
