-- The lines of an hour beside their sources: purchases, rows as they were given, and what is left of rows.
use Rattle.std.proofs.Common.{◌≡◌, ◌∙◌, ℕ, zero, suc, ◌+◌, ◌<◌, ◌==◌, ◌&&◌, Bool, true, false, cond, not, nat_lt, List, [], ◌∷◌, ◌++◌, get_or, map, filter, All, Some, refl, ap, arith, append-nil}
use Rattle.std.proofs.lemmas.Option.{slice_get-get_or}
use Rattle.std.specs.Prelude.{slice_get}
use Rattle.std.specs.List.{Contains, enumerate_from, flat_map}
use Rattle.std.proofs.lemmas.Bool.{and_parts, eqb-true, eq-eqb, ne_eqb, ltb-true}
use Rattle.std.proofs.lemmas.List.{map-append}
use Rattle.std.proofs.lemmas.List.Elements.{All-cons, All-contains_itself, All-filter, All-map, All-nil, filter-append, filter_passes}
use Rattle.fw_charge.specs.Charge.{Charge, hour_of}
use Rattle.fw_terms.specs.Commitment.{CommitmentValue, PurchaseValue}
use Rattle.fw_cover.specs.declared.taken.Taken.{Taken}
use Rattle.fw_cover.specs.Eligible.{is_eligible}
use Rattle.fw_cover.specs.Hour.{hour_cover, left_of}
use Rattle.fw_cover.proofs.ByCommitment.{filter_every, filter_none}
use Rattle.fw_cover.proofs.Sorting.{two_ways}
use Rattle.fw_cover.proofs.Within.{all_enumerate, all_flat_map}
use Rattle.fw_amortise.specs.LineValue.{LineValue}
use Rattle.fw_amortise.specs.Lines.{given_line, given_lines, purchase_line, purchase_lines, purchase_lines_of, rest_line, rest_lines, rest_of}
use Rattle.fw_amortise.specs.Sources.{ComesFrom, SourceValue, is_bought_by, is_of_row, lines_bought_by, lines_from, lines_of_row}
use Rattle.fw_amortise.specs.Sources.SourceValue.{bought_by, row_given, row_left}

-- a line beside its source
abbrev pub Sourced : Type 0
Sourced = SourceValue × LineValue

abbrev pub lines_of : List Sourced → List LineValue
lines_of sourced = map (λ s. s.1) sourced

abbrev pub FromIts : List CommitmentValue → List Charge → ℕ → Sourced → Type 0
FromIts cs rows hour s = ComesFrom cs rows hour s.0 s.1

-- ---- the lines of some sources
pub own_append : (test : SourceValue → Bool) (xs ys : List Sourced) → lines_from test (xs ++ ys) ≡ lines_from test xs ++ lines_from test ys
unfolding lines_from
own_append test xs ys = ap (map (λ (s : Sourced). s.1)) (filter-append (λ (s : Sourced). test s.0) xs ys) ∙ map-append (λ (s : Sourced). s.1) (filter (λ s. test s.0) xs) (filter (λ s. test s.0) ys)

pub own_none : (test : SourceValue → Bool) (xs : List Sourced) → All (λ s. test s.0 ≡ false) xs → lines_from test xs ≡ []
unfolding lines_from
own_none test xs all = ap (map (λ (s : Sourced). s.1)) (filter_none (λ (s : Sourced). test s.0) xs all)

pub own_every : (test : SourceValue → Bool) (xs : List Sourced) → All (λ s. test s.0 ≡ true) xs → lines_from test xs ≡ lines_of xs
unfolding lines_from
own_every test xs all = ap (map (λ (s : Sourced). s.1)) (filter_every (λ (s : Sourced). test s.0) xs all)

pub own_one : (test : SourceValue → Bool) (s : SourceValue) (line : LineValue) → lines_from test ((s, line) ∷ []) ≡ cond (test s) (line ∷ []) []
unfolding lines_from
own_one test s line = two_ways (test s) (λ holds. rw holds refl) (λ fails. rw fails refl)

pub own_nil : (test : SourceValue → Bool) → lines_from test [] ≡ []
unfolding lines_from
own_nil test = refl

own_cons : (test : SourceValue → Bool) (s : SourceValue) (line : LineValue) (xs : List Sourced) → lines_from test ((s, line) ∷ xs) ≡ cond (test s) (line ∷ []) [] ++ lines_from test xs
own_cons test s line xs = own_append test ((s, line) ∷ []) xs ∙ ap (λ l. l ++ lines_from test xs) (own_one test s line)

-- ---- what is made of elements beside their places
mapped_lines : {X : Type 0} (f : ℕ × X → List Sourced) (g : X → List LineValue) → ((x : ℕ × X) → lines_of (f x) ≡ g x.1) → (n : ℕ) (xs : List X) → lines_of (flat_map f (enumerate_from n xs)) ≡ flat_map g xs
mapped_lines f g same n [] = refl
mapped_lines f g same n (x ∷ xs) =
    map-append (λ (s : Sourced). s.1) (f (n, x)) (flat_map f (enumerate_from (n + 1) xs))
    ∙ (rw (same (n, x), mapped_lines f g same (n + 1) xs) refl)

own_past : {X : Type 0} (test : SourceValue → Bool) (r : ℕ) (f : ℕ × X → List Sourced) (h : ℕ × X → List LineValue) → ((x : ℕ × X) → lines_from test (f x) ≡ cond (x.0 == r) (h x) []) → (n : ℕ) (xs : List X) → r < n
    → lines_from test (flat_map f (enumerate_from n xs)) ≡ []
own_past test r f h is n [] past = own_nil test
own_past test r f h is n (x ∷ xs) past =
    let other : (n == r) ≡ false = ne_eqb n r (λ e. omega (arith, e)) in
    let rest = own_past test r f h is (n + 1) xs (omega arith) in
    own_append test (f (n, x)) (flat_map f (enumerate_from (n + 1) xs)) ∙ (rw (is (n, x), other, rest) refl)

own_at : {X : Type 0} (test : SourceValue → Bool) (r : ℕ) (f : ℕ × X → List Sourced) (h : ℕ × X → List LineValue) → ((x : ℕ × X) → lines_from test (f x) ≡ cond (x.0 == r) (h x) []) → (n i : ℕ) (xs : List X) (x : X) → r ≡ n + i → slice_get xs i ≡ Some x
    → lines_from test (flat_map f (enumerate_from n xs)) ≡ h (r, x)
own_at test r f h is n i [] x at there = absurd (cc)
own_at test r f h is n zero (y ∷ xs) x at there =
    let same : (n == r) ≡ true = eq-eqb n r (omega arith) in
    let here : n ≡ r = omega arith in
    let value : y ≡ x = cc in
    let rest = own_past test r f h is (n + 1) xs (omega arith) in
    own_append test (f (n, y)) (flat_map f (enumerate_from (n + 1) xs)) ∙ (rw (is (n, y), same, rest, append-nil (h (n, y))) (ap (λ k. h (k, y)) here ∙ ap (λ v. h (r, v)) value))
own_at test r f h is n (suc i) (y ∷ xs) x at there =
    let other : (n == r) ≡ false = ne_eqb n r (λ e. omega (arith, e)) in
    let rest = own_at test r f h is (n + 1) i xs x (omega arith) there in
    own_append test (f (n, y)) (flat_map f (enumerate_from (n + 1) xs)) ∙ (rw (is (n, y), other) rest)

-- ---- purchases
bought_of : ℕ → ℕ × CommitmentValue → List Sourced
bought_of hour c = map (λ p. (bought_by c.0, purchase_line hour c.1 p)) (filter (λ p. hour_of p.at == hour) c.1.purchases)

pub bought : List CommitmentValue → ℕ → List Sourced
bought cs hour = flat_map (bought_of hour) (enumerate_from 0 cs)

pub seconds_of : {X : Type 0} (s : X → SourceValue) (f : X → LineValue) (xs : List X) → lines_of (map (λ x. (s x, f x)) xs) ≡ map f xs
seconds_of s f [] = refl
seconds_of s f (x ∷ xs) = ap (λ l. f x ∷ l) (seconds_of s f xs)

pub bought_lines : (cs : List CommitmentValue) (hour : ℕ) → lines_of (bought cs hour) ≡ purchase_lines cs hour
unfolding bought bought_of purchase_lines purchase_lines_of
bought_lines cs hour = mapped_lines (bought_of hour) (purchase_lines_of hour) (λ c. seconds_of (λ p. bought_by c.0) (purchase_line hour c.1) (filter (λ p. hour_of p.at == hour) c.1.purchases)) 0 cs

pub bought_from : (cs : List CommitmentValue) (rows : List Charge) (hour : ℕ) → All (FromIts cs rows hour) (bought cs hour)
unfolding bought bought_of
bought_from cs rows hour =
    all_flat_map (FromIts cs rows hour) (bought_of hour) (enumerate_from 0 cs)
    (all_enumerate (λ c. All (FromIts cs rows hour) (bought_of hour c)) cs
    (λ k d lt.
    let c : CommitmentValue = get_or cs k d in
    let kept : List PurchaseValue = filter (λ p. hour_of p.at == hour) c.purchases in
    All-map (FromIts cs rows hour) (λ p. (bought_by k, purchase_line hour c p)) kept
    (λ j e l. record {
      commitment = c;
      purchase = get_or kept j e;
      at_place = slice_get-get_or cs k d lt;
      bought = All-filter (λ p. hour_of p.at == hour) (Contains c.purchases) c.purchases (All-contains_itself c.purchases) j e l;
      in_hour = eqb-true (hour_of (get_or kept j e).at) hour (filter_passes (λ (p : PurchaseValue). hour_of p.at == hour) c.purchases j e l);
      line_is = refl;
    })))

-- lines of one source, all or none of which pass
same_source : {X : Type 0} (test : SourceValue → Bool) (s : SourceValue) (f : X → LineValue) (xs : List X) → lines_from test (map (λ x. (s, f x)) xs) ≡ cond (test s) (map f xs) []
same_source test s f [] = own_nil test ∙ two_ways (test s) (λ holds. rw holds refl) (λ fails. rw fails refl)
same_source test s f (x ∷ xs) =
    own_cons test s (f x) (map (λ x. (s, f x)) xs)
    ∙ (rw (same_source test s f xs) (two_ways (test s) (λ holds. rw holds refl) (λ fails. rw fails refl)))

pub bought_at : (cs : List CommitmentValue) (hour place : ℕ) (c : CommitmentValue) → slice_get cs place ≡ Some c → lines_bought_by place (bought cs hour) ≡ purchase_lines_of hour c
unfolding bought bought_of purchase_lines_of
bought_at cs hour place c there =
    own_at (is_bought_by place) place (bought_of hour) (λ c. purchase_lines_of hour c.1)
    (λ c. same_source (is_bought_by place) (bought_by c.0) (purchase_line hour c.1) (filter (λ p. hour_of p.at == hour) c.1.purchases))
    0 place cs c (omega arith) there

-- a test that no purchase passes
pub bought_none : (test : SourceValue → Bool) → ((place : ℕ) → test (bought_by place) ≡ false) → (cs : List CommitmentValue) (hour : ℕ) → lines_from test (bought cs hour) ≡ []
unfolding bought bought_of
bought_none test never cs hour =
    own_none test (bought cs hour)
    (all_flat_map (λ s. test s.0 ≡ false) (bought_of hour) (enumerate_from 0 cs)
    (λ k d l. All-map (λ s. test s.0 ≡ false) (λ p. (bought_by (get_or (enumerate_from 0 cs) k d).0, purchase_line hour (get_or (enumerate_from 0 cs) k d).1 p)) (filter (λ p. hour_of p.at == hour) (get_or (enumerate_from 0 cs) k d).1.purchases)
    (λ j e m. never (get_or (enumerate_from 0 cs) k d).0)))

-- ---- rows as they were given
unfoldable pub given_own : ℕ → ℕ × Charge → List LineValue
given_own hour row = cond (is_eligible row.1) [] (given_line hour row.1 ∷ [])

given_of : ℕ → ℕ × Charge → List Sourced
given_of hour row = cond (is_eligible row.1) [] ((row_given row.0, given_line hour row.1) ∷ [])

pub given : List Charge → ℕ → List Sourced
given rows hour = flat_map (given_of hour) (enumerate_from 0 rows)

given_filtered : (hour : ℕ) (rows : List Charge) → flat_map (λ row. cond (is_eligible row) [] (given_line hour row ∷ [])) rows ≡ map (given_line hour) (filter (λ row. not (is_eligible row)) rows)
given_filtered hour [] = refl
given_filtered hour (row ∷ rows) =
    let rest = given_filtered hour rows in
    two_ways (is_eligible row) (λ holds. rw holds rest) (λ fails. rw fails (ap (λ l. given_line hour row ∷ l) rest))

given_seconds : (hour : ℕ) (row : ℕ × Charge) → lines_of (given_of hour row) ≡ cond (is_eligible row.1) [] (given_line hour row.1 ∷ [])
unfolding given_of
given_seconds hour row = two_ways (is_eligible row.1) (λ holds. rw holds refl) (λ fails. rw fails refl)

pub given_are : (rows : List Charge) (hour : ℕ) → lines_of (given rows hour) ≡ given_lines rows hour
unfolding given given_lines
given_are rows hour = mapped_lines (given_of hour) (λ row. cond (is_eligible row) [] (given_line hour row ∷ [])) (given_seconds hour) 0 rows ∙ given_filtered hour rows

pub given_from : (cs : List CommitmentValue) (rows : List Charge) (hour : ℕ) → All (FromIts cs rows hour) (given rows hour)
unfolding given given_of
given_from cs rows hour =
    all_flat_map (FromIts cs rows hour) (given_of hour) (enumerate_from 0 rows)
    (all_enumerate (λ row. All (FromIts cs rows hour) (given_of hour row)) rows
    (λ k d lt. two_ways (is_eligible (get_or rows k d))
    (λ holds. rw holds (All-nil (FromIts cs rows hour)))
    (λ fails. rw fails (All-cons (FromIts cs rows hour) (row_given k, given_line hour (get_or rows k d)) [] (record { charge = get_or rows k d; at_row = slice_get-get_or rows k d lt; not_eligible = fails; line_is = refl }) (All-nil (FromIts cs rows hour))))))

given_own_is : (hour r : ℕ) (row : ℕ × Charge) → lines_of_row r (given_of hour row) ≡ cond (row.0 == r) (given_own hour row) []
unfolding given_of given_own
given_own_is hour r row = two_ways (is_eligible row.1)
    (λ holds. rw holds (own_nil (is_of_row r) ∙ two_ways (row.0 == r) (λ here. rw here refl) (λ there. rw there refl)))
    (λ fails. rw fails (own_one (is_of_row r) (row_given row.0) (given_line hour row.1)))

pub given_at : (rows : List Charge) (hour r : ℕ) (row : Charge) → slice_get rows r ≡ Some row → lines_of_row r (given rows hour) ≡ given_own hour (r, row)
unfolding given
given_at rows hour r row there = own_at (is_of_row r) r (given_of hour) (given_own hour) (given_own_is hour r) 0 r rows row (omega arith) there

pub given_none : (test : SourceValue → Bool) → ((r : ℕ) → test (row_given r) ≡ false) → (rows : List Charge) (hour : ℕ) → lines_from test (given rows hour) ≡ []
unfolding given given_of
given_none test never rows hour =
    own_none test (given rows hour)
    (all_flat_map (λ s. test s.0 ≡ false) (given_of hour) (enumerate_from 0 rows)
    (λ k d l. let row : ℕ × Charge = get_or (enumerate_from 0 rows) k d in
    two_ways (is_eligible row.1)
    (λ holds. rw holds (All-nil (λ s. test s.0 ≡ false)))
    (λ fails. rw fails (All-cons (λ s. test s.0 ≡ false) (row_given row.0, given_line hour row.1) [] (never row.0) (All-nil (λ s. test s.0 ≡ false))))))

-- ---- what is left of rows
rest_from : ℕ → ℕ × Charge → ℕ → List Sourced
rest_from hour row u = cond (is_eligible row.1 && nat_lt 0 u) ((row_left row.0, rest_line hour row.1 u) ∷ []) []

pub rests : List Charge → List Taken → ℕ → List Sourced
rests rows taken hour = flat_map (λ row. rest_from hour row (left_of rows taken row.0)) (enumerate_from 0 rows)

rest_second : (hour : ℕ) (row : ℕ × Charge) (u : ℕ) → lines_of (rest_from hour row u) ≡ rest_of hour row.1 u
unfolding rest_from rest_of
rest_second hour row u = two_ways (is_eligible row.1 && nat_lt 0 u) (λ holds. rw holds refl) (λ fails. rw fails refl)

flat_lines : {X : Type 0} (f : X → List Sourced) (g : X → List LineValue) → ((x : X) → lines_of (f x) ≡ g x) → (xs : List X) → lines_of (flat_map f xs) ≡ flat_map g xs
flat_lines f g same [] = refl
flat_lines f g same (x ∷ xs) = map-append (λ (s : Sourced). s.1) (f x) (flat_map f xs) ∙ (rw (same x, flat_lines f g same xs) refl)

pub rests_are : (rows : List Charge) (taken : List Taken) (hour : ℕ) → lines_of (rests rows taken hour) ≡ rest_lines rows taken hour
unfolding rests rest_lines
rests_are rows taken hour = flat_lines (λ row. rest_from hour row (left_of rows taken row.0)) (λ row. rest_of hour row.1 (left_of rows taken row.0)) (λ row. rest_second hour row (left_of rows taken row.0)) (enumerate_from 0 rows)

pub rests_from : (cs : List CommitmentValue) (rows : List Charge) (hour : ℕ) → All (FromIts cs rows hour) (rests rows (hour_cover cs rows hour) hour)
unfolding rests rest_from
rests_from cs rows hour =
    let left : ℕ → ℕ = left_of rows (hour_cover cs rows hour) in
    all_flat_map (FromIts cs rows hour) (λ row. rest_from hour row (left row.0)) (enumerate_from 0 rows)
    (all_enumerate (λ row. All (FromIts cs rows hour) (rest_from hour row (left row.0))) rows
    (λ k d lt. two_ways (is_eligible (get_or rows k d) && nat_lt 0 (left k))
    (λ holds. let known = and_parts (is_eligible (get_or rows k d)) (nat_lt 0 (left k)) holds in
    rw holds (All-cons (FromIts cs rows hour) (row_left k, rest_line hour (get_or rows k d) (left k)) []
    (record { charge = get_or rows k d; left = left k; at_row = slice_get-get_or rows k d lt; eligible = known.0; left_is = refl; some = ltb-true 0 (left k) known.1; line_is = refl })
    (All-nil (FromIts cs rows hour))))
    (λ fails. rw fails (All-nil (FromIts cs rows hour)))))

-- a test that the rest of the row at r passes, and no other rest
rest_own : (test : SourceValue → Bool) (r : ℕ) → ((k : ℕ) → test (row_left k) ≡ (k == r)) → (hour : ℕ) (row : ℕ × Charge) (u : ℕ) → lines_from test (rest_from hour row u) ≡ cond (row.0 == r) (rest_of hour row.1 u) []
unfolding rest_from rest_of
rest_own test r is hour row u = two_ways (is_eligible row.1 && nat_lt 0 u)
    (λ holds. rw holds (own_one test (row_left row.0) (rest_line hour row.1 u) ∙ ap (λ b. cond b (rest_line hour row.1 u ∷ []) []) (is row.0)))
    (λ fails. rw fails (own_nil test ∙ two_ways (row.0 == r) (λ here. rw here refl) (λ there. rw there refl)))

pub rest_at : (test : SourceValue → Bool) (r : ℕ) → ((k : ℕ) → test (row_left k) ≡ (k == r)) → (rows : List Charge) (taken : List Taken) (hour : ℕ) (row : Charge) → slice_get rows r ≡ Some row → lines_from test (rests rows taken hour) ≡ rest_of hour row (left_of rows taken r)
unfolding rests
rest_at test r is rows taken hour row there =
    own_at test r (λ row. rest_from hour row (left_of rows taken row.0)) (λ row. rest_of hour row.1 (left_of rows taken row.0)) (λ row. rest_own test r is hour row (left_of rows taken row.0)) 0 r rows row (omega arith) there

pub rests_none : (test : SourceValue → Bool) → ((r : ℕ) → test (row_left r) ≡ false) → (rows : List Charge) (taken : List Taken) (hour : ℕ) → lines_from test (rests rows taken hour) ≡ []
unfolding rests rest_from
rests_none test never rows taken hour =
    own_none test (rests rows taken hour)
    (all_flat_map (λ s. test s.0 ≡ false) (λ row. rest_from hour row (left_of rows taken row.0)) (enumerate_from 0 rows)
    (λ k d l. let row : ℕ × Charge = get_or (enumerate_from 0 rows) k d in
    two_ways (is_eligible row.1 && nat_lt 0 (left_of rows taken row.0))
    (λ holds. rw holds (All-cons (λ s. test s.0 ≡ false) (row_left row.0, rest_line hour row.1 (left_of rows taken row.0)) [] (never row.0) (All-nil (λ s. test s.0 ≡ false))))
    (λ fails. rw fails (All-nil (λ s. test s.0 ≡ false)))))
