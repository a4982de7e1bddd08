-- Lemmas on what is kept of each commitment, hour by hour.
use Rattle.std.proofs.Common.{◌≡◌, ◌∙◌, ℕ, ◌+◌, ◌-◌, ◌^◌, ◌<◌, Bool, false, ◌&&◌, MatchBool, List, [], ◌∷◌, ◌++◌, All, filter, map, length, get_or, sum_by, not, Some, refl, sym, ap, subst, arith, append-nil}
use Rattle.std.specs.Prelude.{nat_lt, slice_get, slice_index}
use Rattle.std.specs.Bool.{OnTrue}
use Rattle.std.specs.List.{AllZip, enumerate_from, list_any, range_with_len}
use Rattle.std.specs.Str.{bytes_eq}
use Rattle.std.proofs.lemmas.Bool.{MatchBool-at_false, MatchBool-at_true, OnTrue_from}
use Rattle.std.proofs.lemmas.Grind.{flat_map-append}
use Rattle.std.proofs.lemmas.List.{get_or-map, get_or_default}
use Rattle.std.proofs.lemmas.Option.{slice_get_read}
use Rattle.std.proofs.lemmas.List.Elements.{All-append, All-cons, All-filter, All-head, All-nil, All-tail}
use Rattle.std.proofs.lemmas.List.Sums.{sum_by-append, sum_by-cons}
use Rattle.std.proofs.lemmas.Simd.{map-map}
use Rattle.fw_charge.specs.Charge.{Charge}
use Rattle.fw_terms.specs.Commitment.{CommitmentValue}
use Rattle.fw_cover.specs.Applies.{is_in_term}
use Rattle.fw_cover.specs.Cover.{used_of}
use Rattle.fw_cover.specs.Eligible.{is_eligible, is_of_hour}
use Rattle.fw_cover.specs.Hour.{capacities_of, hour_cover, left_of, unused_of}
use Rattle.fw_cover.specs.declared.taken.Taken.{Taken}
use Rattle.fw_cover.proofs.Sorting.{two_ways}
use Rattle.fw_cover.proofs.Whole.{commitment_whole}
use Rattle.fw_cover.proofs.Within.{all_enumerate, all_flat_map}
use Rattle.fw_amortise.specs.LineValue.{LineValue}
use Rattle.fw_amortise.specs.Lines.{AreLines, given_line, given_lines, rest_line, rest_lines, rest_of, rows_in}
use Rattle.fw_coverage.specs.Coverage.{CoverageValue, IsCoverage, capacity_of, coverage_of, in_term, is_shown, paid_cost, unused_cost, unused_in, used_cost, used_in}
use Rattle.fw_coverage.specs.Tallies.{AreAfter, AreApart, ArePlaced, AreTallies, TallyValue, after_hour, coverage_from, line_sums, no_sums, no_tally, tally_of, with_sums}
use Rattle.fw_entry.specs.Entry as entry
use Rattle.fw_entry.specs.Spelling.{IsEntry}
use Rattle.fw_snapshot.specs.History.{commitments_of, rows_of}
use Rattle.fw_snapshot.specs.Judging.{IsLegal}
use Rattle.fw_sums.specs.Hours.{AreTouched, has_line, is_touched, rows_marked}
use Rattle.fw_sums.specs.RangeLines.{AreRangeLines, joined}
use Rattle.fw_query.specs.Texts.{id_text}
use Rattle.fw_query.proofs.BoughtFacts.{not_shown}
use Rattle.fw_query.proofs.CarriedFacts.{commitment_keeps, range_append, rows_free}
use Rattle.fw_coverage.proofs.LineSumFacts.{line_sums-append, no_lines_carry, other_line, with_none}
use Rattle.fw_sums.proofs.MarkFacts.{marked_at, rows_in_marked, touched_at}
use Rattle.fw_sums.proofs.UntouchedFacts.{are_plain, neither, plain_lines}

-- the hour in turn is early where it is marked
pub early_in_turn : (cs : List CommitmentValue) (from hours hour i : ℕ) (marks : List Bool) → AreTouched cs from hours marks → hour ≡ from + i → OnTrue (get_or marks (hour - from) false) (hour < 2 ^ 32)
early_in_turn cs from hours hour i marks touched at =
    let place : hour - from ≡ i = omega (arith, at) in
    OnTrue_from (get_or marks (hour - from) false) (hour < 2 ^ 32) (λ yes. rw at (touched.early i (rw place at yes)))

-- ---- what nothing used in an hour
pub unused_is : (cs : List CommitmentValue) (rows : List Charge) (hour : ℕ) (taken : List Taken) (unused : List ℕ) → taken ≡ hour_cover cs rows hour
    → ((c : ℕ) → used_of c taken + slice_index unused c ≡ slice_index (capacities_of cs) c) → (p : ℕ) → slice_index unused p ≡ unused_of cs (hour_cover cs rows hour) p
unfolding unused_of
unused_is cs rows hour taken unused is whole p =
    let same : used_of p taken ≡ used_of p (hour_cover cs rows hour) = ap (used_of p) is in
    let all = whole p in
    omega (arith, same, all)

-- ---- one more hour
pub range_more : (from n : ℕ) → range_with_len from (n + 1) ≡ range_with_len from n ++ (from + n) ∷ []
range_more from n = range_append from n 1

sum_more : (f : ℕ → ℕ) (from n : ℕ) → sum_by f (range_with_len from (n + 1)) ≡ sum_by f (range_with_len from n) + f (from + n)
sum_more f from n =
    let one : sum_by f ((from + n) ∷ []) ≡ f (from + n) = sum_by-cons f (from + n) [] ∙ omega arith in
    ap (sum_by f) (range_more from n) ∙ sum_by-append f (range_with_len from n) ((from + n) ∷ []) ∙ ap (λ x. sum_by f (range_with_len from n) + x) one

zip_more : {X Y : Type 0} (R : X → Y → Type 0) (xs : List X) (ys : List Y) (x : X) (y : Y) → AllZip R xs ys → R x y → AllZip R (xs ++ x ∷ []) (ys ++ y ∷ [])
zip_more R [] [] x y h r = (r, tt)
zip_more R [] (b ∷ ys) x y h r = absurd h
zip_more R (a ∷ xs) [] x y h r = absurd h
zip_more R (a ∷ xs) (b ∷ ys) x y h r = (h.0, zip_more R xs ys x y h.1 r)

lines_more : (cs : List CommitmentValue) (rows : List Charge) (from n : ℕ) (lines more : List LineValue) → AreRangeLines cs rows from (from + n) lines → AreLines cs rows (from + n) more → AreRangeLines cs rows from (from + (n + 1)) (lines ++ more)
lines_more cs rows from n lines more are here =
    let hours : (from + n) - from ≡ n = omega arith in
    let longer : (from + (n + 1)) - from ≡ n + 1 = omega arith in
    let before : AllZip (AreLines cs rows) (range_with_len from n) are.hourly = rw hours at are.are_hourly in
    record {
      hourly = are.hourly ++ more ∷ [];
      are_hourly = rw (longer, range_more from n) (zip_more (AreLines cs rows) (range_with_len from n) are.hourly (from + n) more before here);
      lines_are = ap (λ l. l ++ more) are.lines_are ∙ sym (flat_map-append (λ ls. ls) are.hourly (more ∷ []) ∙ ap (λ l. joined are.hourly ++ l) (append-nil more));
    }

-- ---- before any hour
pub no_tallies_yet : (cs : List CommitmentValue) (rows : List Charge) (from : ℕ) (tallies : List TallyValue) → tallies ≡ map no_tally (enumerate_from 0 cs) → AreTallies cs rows from 0 tallies
unfolding no_tally tally_of capacity_of
no_tallies_yet cs rows from tallies are =
    let hours : (from + 0) - from ≡ 0 = omega arith in
    record {
      lines = [];
      are_lines = record { hourly = []; are_hourly = rw hours tt; lines_are = refl };
      tallies_are = are ∙ (λ j. map (λ (c : ℕ × CommitmentValue). record { place = c.0; commitment = c.1; capacity = 0; unused = 0; sums = sym (no_lines_carry c.1.id) j }) (enumerate_from 0 cs));
    }

-- ---- an hour that was read
after_tally : (cs : List CommitmentValue) (rows : List Charge) (lines more : List LineValue) (from n : ℕ) (c : ℕ × CommitmentValue)
    → after_hour (from + n) (unused_of cs (hour_cover cs (rows_in (from + n) rows) (from + n))) more (tally_of cs rows lines from n c) ≡ tally_of cs rows (lines ++ more) from (n + 1) c
unfolding after_hour tally_of capacity_of unused_in
after_tally cs rows lines more from n c = λ j. record {
  place = c.0;
  commitment = c.1;
  capacity = sym (sum_more (λ h. in_term c.1 h c.1.capacity) from n) j;
  unused = sym (sum_more (unused_in cs rows c) from n) j;
  sums = sym (line_sums-append c.1.id lines more) j;
}

pub tallies_after : (cs : List CommitmentValue) (rows : List Charge) (from n : ℕ) (old new : List TallyValue) → AreTallies cs rows from n old → AreAfter cs (rows_in (from + n) rows) (from + n) old new → AreTallies cs rows from (n + 1) new
unfolding AreLines
tallies_after cs rows from n old new are after =
    let f : TallyValue → TallyValue = after_hour (from + n) (unused_of cs (hour_cover cs (rows_in (from + n) rows) (from + n))) after.lines in
    record {
      lines = are.lines ++ after.lines;
      are_lines = lines_more cs rows from n are.lines after.lines are.are_lines after.are_lines;
      tallies_are =
          after.new_are ∙ ap (map f) are.tallies_are ∙ map-map f (tally_of cs rows are.lines from n) (enumerate_from 0 cs)
          ∙ (λ j. map (λ c. after_tally cs rows are.lines after.lines from n c j) (enumerate_from 0 cs));
    }

-- ---- an hour in which no commitment has a line
-- the text of a line of a row has the row's id
abbrev IsOther : List ℕ → LineValue → Type 0
IsOther id line = bytes_eq (id_text line.commitment) id ≡ false

abbrev IsOtherRow : List ℕ → Charge → Type 0
IsOtherRow id row = bytes_eq (id_text row.discount) id ≡ false

given_other : (id : List ℕ) (hour : ℕ) (rows : List Charge) → All (IsOtherRow id) rows → All (IsOther id) (map (given_line hour) rows)
unfolding given_line
given_other id hour [] other = All-nil (IsOther id)
given_other id hour (row ∷ rows) other = All-cons (IsOther id) (given_line hour row) (map (given_line hour) rows) (All-head (IsOtherRow id) row rows other) (given_other id hour rows (All-tail (IsOtherRow id) row rows other))

rest_other : (id : List ℕ) (hour : ℕ) (row : Charge) (left : ℕ) → IsOtherRow id row → All (IsOther id) (rest_of hour row left)
unfolding rest_of rest_line
rest_other id hour row left other = two_ways (is_eligible row && nat_lt 0 left)
    (λ some. rw some (All-cons (IsOther id) (rest_line hour row left) [] other (All-nil (IsOther id))))
    (λ none. rw none (All-nil (IsOther id)))

plain_other : (id : List ℕ) (hour : ℕ) (rows : List Charge) → All (IsOtherRow id) rows → All (IsOther id) (plain_lines rows hour)
unfolding given_lines rest_lines
plain_other id hour rows other =
    All-append (IsOther id) (given_lines rows hour) (rest_lines rows [] hour)
    (given_other id hour (filter (λ row. not (is_eligible row)) rows) (All-filter (λ row. not (is_eligible row)) (IsOtherRow id) rows other))
    (all_flat_map (IsOther id) (λ (r : ℕ × Charge). rest_of hour r.1 (left_of rows [] r.0)) (enumerate_from 0 rows)
    (all_enumerate (λ (r : ℕ × Charge). All (IsOther id) (rest_of hour r.1 (left_of rows [] r.0))) rows
    (λ k d l. rest_other id hour (get_or rows k d) (left_of rows [] k) (other k d l))))

-- such lines carry nothing
others_carry_nothing : (id : List ℕ) (lines : List LineValue) → All (IsOther id) lines → line_sums id lines ≡ no_sums
others_carry_nothing id [] other = no_lines_carry id
others_carry_nothing id (line ∷ lines) other =
    let here : line_sums id (line ∷ []) ≡ no_sums = other_line id line (All-head (IsOther id) line lines other) in
    let rest : line_sums id lines ≡ no_sums = others_carry_nothing id lines (All-tail (IsOther id) line lines other) in
    line_sums-append id (line ∷ []) lines ∙ (λ j. with_sums (here j) (rest j)) ∙ with_none no_sums

-- a commitment without a line in an hour has nothing of it
not_in_term : (c : CommitmentValue) (hour amount : ℕ) → has_line hour c ≡ false → in_term c hour amount ≡ 0
unfolding in_term
not_in_term c hour amount none = let out : is_in_term c hour ≡ false = (neither (is_in_term c hour) _ none).0 in rw out refl

same_tally : (cs : List CommitmentValue) (rows : List Charge) (lines more : List LineValue) (from n : ℕ) (c : ℕ × CommitmentValue) → has_line (from + n) c.1 ≡ false → line_sums c.1.id more ≡ no_sums
    → tally_of cs rows lines from n c ≡ tally_of cs rows (lines ++ more) from (n + 1) c
unfolding tally_of capacity_of unused_in
same_tally cs rows lines more from n c none nothing =
    let f : ℕ → ℕ = λ h. in_term c.1 h c.1.capacity in
    let g : ℕ → ℕ = unused_in cs rows c in
    let no_capacity : f (from + n) ≡ 0 = not_in_term c.1 (from + n) c.1.capacity none in
    let no_unused : g (from + n) ≡ 0 = not_in_term c.1 (from + n) (unused_of cs (hour_cover cs (rows_in (from + n) rows) (from + n)) c.0) none in
    let more_capacity = sum_more f from n in
    let more_unused = sum_more g from n in
    let capacity : sum_by f (range_with_len from n) ≡ sum_by f (range_with_len from (n + 1)) = omega (arith, no_capacity, more_capacity) in
    let unused : sum_by g (range_with_len from n) ≡ sum_by g (range_with_len from (n + 1)) = omega (arith, no_unused, more_unused) in
    let sums : line_sums c.1.id (lines ++ more) ≡ line_sums c.1.id lines = line_sums-append c.1.id lines more ∙ ap (with_sums (line_sums c.1.id lines)) nothing ∙ with_none (line_sums c.1.id lines) in
    λ j. record { place = c.0; commitment = c.1; capacity = capacity j; unused = unused j; sums = sym sums j }

map_same : {X Y : Type 0} (f g : X → Y) (xs : List X) → All (λ x. f x ≡ g x) xs → map f xs ≡ map g xs
map_same f g [] same = refl
map_same {X} f g (x ∷ xs) same =
    let P : X → Type 0 = λ x. f x ≡ g x in
    λ j. All-head P x xs same j ∷ map_same f g xs (All-tail P x xs same) j

none_touched : (cs : List CommitmentValue) (hour : ℕ) → is_touched cs hour ≡ false → All (λ c. has_line hour c ≡ false) cs
unfolding is_touched
none_touched [] hour none = All-nil (λ c. has_line hour c ≡ false)
none_touched (c ∷ cs) hour none =
    let both = neither (has_line hour c) (list_any (has_line hour) cs) none in
    All-cons (λ c. has_line hour c ≡ false) c cs both.0 (none_touched cs hour both.1)

pub tallies_stay : (cs : List CommitmentValue) (rows : List Charge) (from n : ℕ) (tallies : List TallyValue) → AreApart cs rows → is_touched cs (from + n) ≡ false → AreTallies cs rows from n tallies → AreTallies cs rows from (n + 1) tallies
unfolding AreLines rows_in
tallies_stay cs rows from n tallies apart none are =
    let hour : ℕ = from + n in
    let more : List LineValue = plain_lines (rows_in hour rows) hour in
    let free = none_touched cs hour none in
    record {
      lines = are.lines ++ more;
      are_lines = lines_more cs rows from n are.lines more are.are_lines (are_plain cs (rows_in hour rows) hour none);
      tallies_are =
          are.tallies_are
          ∙ map_same (tally_of cs rows are.lines from n) (tally_of cs rows (are.lines ++ more) from (n + 1)) (enumerate_from 0 cs)
          (all_enumerate (λ c. tally_of cs rows are.lines from n c ≡ tally_of cs rows (are.lines ++ more) from (n + 1) c) cs
          (λ k d l.
          let c : CommitmentValue = get_or cs k d in
          let other : All (IsOtherRow c.id) (rows_in hour rows) = All-filter (is_of_hour hour) (IsOtherRow c.id) rows (apart k d l) in
          same_tally cs rows are.lines more from n (k, c) (free k d l) (others_carry_nothing c.id more (plain_other c.id hour (rows_in hour rows) other))));
    }

-- the next hour, touched or not
pub next_tallies : (cs : List CommitmentValue) (rows : List Charge) (touched : List Bool) (from n i : ℕ) (old new : List TallyValue) → i < n → AreTouched cs from n touched → AreApart cs rows → AreTallies cs rows from i old
    → MatchBool (get_or touched i false) (AreAfter cs (rows_in (from + i) (rows_marked touched from rows)) (from + i) old new) (new ≡ old) → AreTallies cs rows from (i + 1) new
next_tallies cs rows touched from n i old new below marks apart are step =
    two_ways (get_or touched i false)
    (λ yes.
    let after = MatchBool-at_true (AreAfter cs (rows_in (from + i) (rows_marked touched from rows)) (from + i) old new) (new ≡ old) yes step in
    let own : rows_in (from + i) (rows_marked touched from rows) ≡ rows_in (from + i) rows = rows_in_marked (from + i) touched from rows (marked_at touched from (from + i) i refl ∙ yes) in
    tallies_after cs rows from i old new are (subst (λ rs. AreAfter cs rs (from + i) old new) own after))
    (λ no.
    let same : new ≡ old = MatchBool-at_false (AreAfter cs (rows_in (from + i) (rows_marked touched from rows)) (from + i) old new) (new ≡ old) no step in
    subst (AreTallies cs rows from (i + 1)) (sym same) (tallies_stay cs rows from i old apart (sym (touched_at cs from n touched i marks below) ∙ no) are))

-- tallies are placed in the list
pub placed : (cs : List CommitmentValue) (rows : List Charge) (from n : ℕ) (tallies : List TallyValue) → AreTallies cs rows from n tallies → ArePlaced (length cs) tallies
unfolding tally_of
placed cs rows from n tallies are =
    let there : ArePlaced (length cs) (map (tally_of cs rows are.lines from n) (enumerate_from 0 cs)) =
    all_map (λ (t : TallyValue). t.place < length cs) (tally_of cs rows are.lines from n) (enumerate_from 0 cs) (all_enumerate (λ (c : ℕ × CommitmentValue). c.0 < length cs) cs (λ k d l. l)) in
    subst (ArePlaced (length cs)) (sym are.tallies_are) there
  where
    all_map : {X Y : Type 0} (P : Y → Type 0) (f : X → Y) (xs : List X) → All (λ x. P (f x)) xs → All P (map f xs)
    all_map P f [] all = All-nil P
    all_map {X} P f (x ∷ xs) all =
        let Q : X → Type 0 = λ x. P (f x) in
        All-cons P (f x) (map f xs) (All-head Q x xs all) (all_map P f xs (All-tail Q x xs all))

-- ---- the coverage
-- what was used is what is not unused
pub used_rest : (cs : List CommitmentValue) (rows : List Charge) (place : ℕ) (c : CommitmentValue) → slice_index (capacities_of cs) place ≡ c.capacity
    → (hours : List ℕ) → sum_by (used_in cs rows (place, c)) hours + sum_by (unused_in cs rows (place, c)) hours ≡ capacity_of c hours
unfolding capacity_of used_in unused_in in_term
used_rest cs rows place c whole [] = refl
used_rest cs rows place c whole (hour ∷ hours) =
    let f : ℕ → ℕ = used_in cs rows (place, c) in
    let g : ℕ → ℕ = unused_in cs rows (place, c) in
    let k : ℕ → ℕ = λ h. in_term c h c.capacity in
    let rest = used_rest cs rows place c whole hours in
    let here : f hour + g hour ≡ k hour = two_ways (is_in_term c hour)
    (λ holds. rw (holds, ← whole) (commitment_whole cs (rows_in hour rows) hour place))
    (λ fails. rw fails refl) in
    let a = sum_by-cons f hour hours in
    let b = sum_by-cons g hour hours in
    let d = sum_by-cons k hour hours in
    omega (arith, rest, here, a, b, d)

-- those of a list that pass a test after it is mapped
filter_map_of : {X Y : Type 0} (f : X → Y) (p : Y → Bool) (xs : List X) → filter p (map f xs) ≡ map f (filter (λ x. p (f x)) xs)
filter_map_of f p [] = refl
filter_map_of f p (x ∷ xs) = let rest = filter_map_of f p xs in two_ways (p (f x)) (λ holds. rw holds (ap (λ l. f x ∷ l) rest)) (λ fails. rw fails rest)

capacity_at : (cs : List CommitmentValue) (k : ℕ) (d : CommitmentValue) → k < length cs → slice_index (capacities_of cs) k ≡ (get_or cs k d).capacity
capacity_at cs k d l = get_or-map (λ (c : CommitmentValue). c.capacity) cs k d 0 l

-- the coverage that a tally comes to is that of its commitment
tally_covers : (cs : List CommitmentValue) (rows : List Charge) (from n : ℕ) (lines : List LineValue) (place : ℕ) (c : CommitmentValue) → slice_index (capacities_of cs) place ≡ c.capacity → coverage_from (tally_of cs rows lines from n (place, c)) ≡ coverage_of cs rows lines from (from + n) (place, c)
unfolding coverage_from tally_of coverage_of line_sums
tally_covers cs rows from n lines place c whole =
    let hours : n ≡ (from + n) - from = omega arith in
    let all = used_rest cs rows place c whole (range_with_len from n) in
    let used : capacity_of c (range_with_len from n) - sum_by (unused_in cs rows (place, c)) (range_with_len from n) ≡ sum_by (used_in cs rows (place, c)) (range_with_len from n) = omega (arith, all) in
    λ j. record {
      commitment = c;
      capacity = capacity_of c (range_with_len from (hours j));
      used = (used ∙ ap (λ m. sum_by (used_in cs rows (place, c)) (range_with_len from m)) hours) j;
      unused = sum_by (unused_in cs rows (place, c)) (range_with_len from (hours j));
      used_cost = used_cost c.id lines;
      unused_cost = unused_cost c.id lines;
      paid = paid_cost c.id lines;
    }

pub coverage_is : (cs : List CommitmentValue) (rows : List Charge) (from n : ℕ) (tallies : List TallyValue) (coverage : List CoverageValue) → AreTallies cs rows from n tallies
    → coverage ≡ map coverage_from (filter (λ t. t.sums.shown) tallies) → IsCoverage cs rows from (from + n) coverage
unfolding tally_of line_sums
coverage_is cs rows from n tallies coverage are is =
    let f : ℕ × CommitmentValue → TallyValue = tally_of cs rows are.lines from n in
    let found : List (ℕ × CommitmentValue) = filter (is_shown are.lines) (enumerate_from 0 cs) in
    record {
      lines = are.lines;
      are_lines = are.are_lines;
      coverage_is =
          is ∙ ap (λ ts. map coverage_from (filter (λ (t : TallyValue). t.sums.shown) ts)) are.tallies_are
          ∙ ap (map coverage_from) (filter_map_of f (λ (t : TallyValue). t.sums.shown) (enumerate_from 0 cs))
          ∙ map-map coverage_from f found
          ∙ map_same (λ c. coverage_from (f c)) (coverage_of cs rows are.lines from (from + n)) found
          (All-filter (is_shown are.lines) (λ c. coverage_from (f c) ≡ coverage_of cs rows are.lines from (from + n) c) (enumerate_from 0 cs)
          (all_enumerate (λ c. coverage_from (f c) ≡ coverage_of cs rows are.lines from (from + n) c) cs (λ k d l. tally_covers cs rows from n are.lines k (get_or cs k d) (capacity_at cs k d l))));
    }

-- ---- no row has the id of a commitment that was accepted
pub rows_apart : (history : List entry.EntryValue) → IsLegal history → All IsEntry history → AreApart (commitments_of history) (rows_of history)
rows_apart history legal each k d l =
    let cs : List CommitmentValue = commitments_of history in
    let c : CommitmentValue = get_or cs k d in
    let at : slice_get cs k ≡ Some c = slice_get_read cs (length cs) k c refl l (get_or_default cs k d c l) in
    let some : 0 < length c.id = (commitment_keeps history k c legal each at).id.some in
    let free = rows_free history k c legal at in
    λ i row below. not_shown c.id (get_or (rows_of history) i row).discount some (free i row below)
