-- The pairs of all rows, put in order at once, stand commitment by commitment.
use Rattle.std.proofs.Common.{◌≡◌, ℕ, ◌+◌, ◌<◌, ◌==◌, Bool, true, false, not, nat_lt, List, [], ◌∷◌, ◌++◌, get_or, map, filter, All, Option, Some, None, option_map, unwrap_or, refl, sym, ap, ◌∙◌, arith}
use Rattle.std.specs.List.{enumerate_from, filter_map, flat_map, cons_option}
use Rattle.std.proofs.lemmas.Bool.{lt-ltb, le-ltb, ltb-true, ltb-false, eq-eqb, ne_eqb}
use Rattle.std.proofs.lemmas.List.{map-append}
use Rattle.std.proofs.lemmas.List.Elements.{All-nil, All-cons, All-head, filter-append, filter_passes, All-tail}
use Rattle.fw_charge.specs.Charge.{Charge}
use Rattle.fw_terms.specs.Commitment.{CommitmentValue}
use Rattle.fw_cover.specs.Order.{insert_by, in_order, pair_for, has_lower_rate, pairs_of_commitment}
use Rattle.fw_cover.specs.Ranked.{RankedPair, compare_ranked, ranked_before}
use Rattle.fw_cover.specs.declared.pair.Pair.{Pair}
use Rattle.fw_cover.proofs.Sorting.{two_ways, map_in_order}
use Rattle.fw_cover.proofs.Within.{all_in_order}

-- ---- a list of which some stand before all others
-- an element goes before what it is before, and past what is before it
pub insert_before : {X : Type 0} (before : X → X → Bool) (x : X) (front back : List X) → All (λ y. before y x ≡ false) back → insert_by before x (front ++ back) ≡ insert_by before x front ++ back
insert_before before x [] [] all = refl
insert_before {X} before x [] (y ∷ back) all = let P : X → Type 0 = λ y. before y x ≡ false in rw (All-head P y back all) refl
insert_before before x (y ∷ front) back all = two_ways (before y x) (λ holds. rw holds (ap (λ l. y ∷ l) (insert_before before x front back all))) (λ fails. rw fails refl)

insert_past : {X : Type 0} (before : X → X → Bool) (x : X) (front back : List X) → All (λ y. before y x ≡ true) front → insert_by before x (front ++ back) ≡ front ++ insert_by before x back
insert_past before x [] back all = refl
insert_past {X} before x (y ∷ front) back all = let P : X → Type 0 = λ y. before y x ≡ true in
    rw (All-head P y front all) (ap (λ l. y ∷ l) (insert_past before x front back (All-tail P y front all)))

not_true : (b : Bool) → not b ≡ true → b ≡ false
not_true true h = sym h
not_true false h = refl

-- where all that pass a test go before all that fail it, those that pass stand first
pub parted : {X : Type 0} (before : X → X → Bool) (p : X → Bool) → ((x y : X) → p x ≡ true → p y ≡ false → before x y ≡ true) → ((x y : X) → p x ≡ true → p y ≡ false → before y x ≡ false) → (xs : List X)
    → in_order before xs ≡ in_order before (filter p xs) ++ in_order before (filter (λ x. not (p x)) xs)
parted before p goes stays [] = refl
parted {X} before p goes stays (x ∷ xs) =
    let front : List X = in_order before (filter p xs) in
    let back : List X = in_order before (filter (λ y. not (p y)) xs) in
    let first : All (λ y. p y ≡ true) front = all_in_order before (λ y. p y ≡ true) (filter p xs) (filter_passes p xs) in
    let later : All (λ y. p y ≡ false) back = all_in_order before (λ y. p y ≡ false) (filter (λ y. not (p y)) xs) (λ k d lt. not_true _ (filter_passes (λ y. not (p y)) xs k d lt)) in
    ap (insert_by before x) (parted before p goes stays xs) ∙ two_ways (p x)
    (λ holds. rw holds (insert_before before x front back (λ k d lt. stays x (get_or back k d) holds (later k d lt))))
    (λ fails. rw fails (insert_past before x front back (λ k d lt. goes (get_or front k d) x (first k d lt) fails)))

pub filter_none : {X : Type 0} (p : X → Bool) (xs : List X) → All (λ x. p x ≡ false) xs → filter p xs ≡ []
filter_none p [] all = refl
filter_none {X} p (x ∷ xs) all = let P : X → Type 0 = λ x. p x ≡ false in rw (All-head P x xs all) (filter_none p xs (All-tail P x xs all))

pub filter_every : {X : Type 0} (p : X → Bool) (xs : List X) → All (λ x. p x ≡ true) xs → filter p xs ≡ xs
filter_every p [] all = refl
filter_every {X} p (x ∷ xs) all = let P : X → Type 0 = λ x. p x ≡ true in rw (All-head P x xs all) (ap (λ l. x ∷ l) (filter_every p xs (All-tail P x xs all)))

-- ---- pairs beside the places of their commitments
abbrev pub ranked : ℕ → Pair → RankedPair
ranked n p = record { rank = n; pair = p }

-- the pair of a row and a commitment of the order
abbrev pub ranked_for : ℕ → ℕ × Charge → ℕ × (ℕ × CommitmentValue) → Option RankedPair
ranked_for hour row c = option_map (ranked c.0) (pair_for hour c.1 row)

-- the pairs of a row with the commitments of an order whose places begin at n
abbrev pub ranked_at : ℕ → ℕ → List (ℕ × CommitmentValue) → ℕ × Charge → List RankedPair
ranked_at hour n cs row = filter_map (ranked_for hour row) (enumerate_from n cs)

abbrev is_upto : ℕ → RankedPair → Bool
is_upto n q = nat_lt q.rank (n + 1)

-- a lower place goes first, whatever the rates
goes : (n : ℕ) (x y : RankedPair) → is_upto n x ≡ true → is_upto n y ≡ false → ranked_before x y ≡ true
unfolding compare_ranked
goes n x y hx hy = let less : nat_lt x.rank y.rank ≡ true = lt-ltb x.rank y.rank (omega (arith, ltb-true x.rank (n + 1) hx, ltb-false y.rank (n + 1) hy)) in rw less refl

stays : (n : ℕ) (x y : RankedPair) → is_upto n x ≡ true → is_upto n y ≡ false → ranked_before y x ≡ false
unfolding compare_ranked
stays n x y hx hy = let more : x.rank < y.rank = omega (arith, ltb-true x.rank (n + 1) hx, ltb-false y.rank (n + 1) hy) in
    let least : nat_lt y.rank x.rank ≡ false = le-ltb y.rank x.rank (omega (arith, more)) in
    let other : (y.rank == x.rank) ≡ false = ne_eqb y.rank x.rank (λ e. omega (arith, more, e)) in
    rw (least, other) refl

-- at one place the rates alone count
same_rank : (n : ℕ) (p q : Pair) → ranked_before (ranked n p) (ranked n q) ≡ has_lower_rate p q
unfolding compare_ranked
same_rank n p q =
    let a : ℕ = unwrap_or p.rate 0 in
    let b : ℕ = unwrap_or q.rate 0 in
    rw (le-ltb n n (omega arith), eq-eqb n n refl) (two_ways (nat_lt a b)
    (λ less. rw less refl)
    (λ least. two_ways (a == b) (λ same. rw (least, same) refl) (λ other. rw (least, other) refl)))

pairs_again : (n : ℕ) (ps : List Pair) → map (λ q. q.pair) (map (ranked n) ps) ≡ ps
pairs_again n [] = refl
pairs_again n (p ∷ ps) = ap (λ l. p ∷ l) (pairs_again n ps)

pub one_rank : (n : ℕ) (ps : List Pair) → map (λ q. q.pair) (in_order ranked_before (map (ranked n) ps)) ≡ in_order has_lower_rate ps
one_rank n ps =
    let alike : (λ p q. ranked_before (ranked n p) (ranked n q)) ≡ has_lower_rate = λ i p q. same_rank n p q i in
    ap (map (λ q. q.pair)) (sym (map_in_order (ranked n) ranked_before ps)) ∙ (pairs_again n (in_order (λ p q. ranked_before (ranked n p) (ranked n q)) ps) ∙ ap (λ before. in_order before ps) alike)

-- ---- those of the first commitment, and the others
later_one : (n k : ℕ) (o : Option Pair) (rest : List RankedPair) → n < k → All (λ q. is_upto n q ≡ false) rest → All (λ q. is_upto n q ≡ false) (cons_option (option_map (ranked k) o) rest)
later_one n k None rest lt all = all
later_one n k (Some p) rest lt all = All-cons (λ q. is_upto n q ≡ false) (ranked k p) rest (le-ltb k (n + 1) (omega (arith, lt))) all

later : (hour n k : ℕ) (cs : List (ℕ × CommitmentValue)) (row : ℕ × Charge) → n < k → All (λ q. is_upto n q ≡ false) (ranked_at hour k cs row)
later hour n k [] row lt = All-nil (λ q. is_upto n q ≡ false)
later hour n k (c ∷ cs) row lt = later_one n k (pair_for hour c row) (ranked_at hour (k + 1) cs row) lt (later hour n (k + 1) cs row (omega (arith, lt)))

first_of_row : (n : ℕ) (o : Option Pair) (rest : List RankedPair) → All (λ q. is_upto n q ≡ false) rest → filter (is_upto n) (cons_option (option_map (ranked n) o) rest) ≡ map (ranked n) (cons_option o [])
first_of_row n None rest all = filter_none (is_upto n) rest all
first_of_row n (Some p) rest all = rw (lt-ltb n (n + 1) (omega arith)) (ap (λ l. ranked n p ∷ l) (filter_none (is_upto n) rest all))

others_of_row : (n : ℕ) (o : Option Pair) (rest : List RankedPair) → All (λ q. is_upto n q ≡ false) rest → filter (λ q. not (is_upto n q)) (cons_option (option_map (ranked n) o) rest) ≡ rest
others_of_row n None rest all = filter_every (λ q. not (is_upto n q)) rest (λ k d lt. ap not (all k d lt))
others_of_row n (Some p) rest all = rw (lt-ltb n (n + 1) (omega arith)) (filter_every (λ q. not (is_upto n q)) rest (λ k d lt. ap not (all k d lt)))

map_more : (n : ℕ) (o : Option Pair) (ps : List Pair) → map (ranked n) (cons_option o []) ++ map (ranked n) ps ≡ map (ranked n) (cons_option o ps)
map_more n None ps = refl
map_more n (Some p) ps = refl

firsts : (hour n : ℕ) (c : ℕ × CommitmentValue) (cs : List (ℕ × CommitmentValue)) (rows : List (ℕ × Charge)) → filter (is_upto n) (flat_map (ranked_at hour n (c ∷ cs)) rows) ≡ map (ranked n) (filter_map (pair_for hour c) rows)
firsts hour n c cs [] = refl
firsts hour n c cs (row ∷ rows) = filter-append (is_upto n) (ranked_at hour n (c ∷ cs) row) (flat_map (ranked_at hour n (c ∷ cs)) rows)
    ∙ (rw (first_of_row n (pair_for hour c row) (ranked_at hour (n + 1) cs row) (later hour n (n + 1) cs row (omega arith)), firsts hour n c cs rows) (map_more n (pair_for hour c row) (filter_map (pair_for hour c) rows)))

others : (hour n : ℕ) (c : ℕ × CommitmentValue) (cs : List (ℕ × CommitmentValue)) (rows : List (ℕ × Charge)) → filter (λ q. not (is_upto n q)) (flat_map (ranked_at hour n (c ∷ cs)) rows) ≡ flat_map (ranked_at hour (n + 1) cs) rows
others hour n c cs [] = refl
others hour n c cs (row ∷ rows) = filter-append (λ q. not (is_upto n q)) (ranked_at hour n (c ∷ cs) row) (flat_map (ranked_at hour n (c ∷ cs)) rows)
    ∙ (rw (others_of_row n (pair_for hour c row) (ranked_at hour (n + 1) cs row) (later hour n (n + 1) cs row (omega arith)), others hour n c cs rows) refl)

no_commitments : (hour n : ℕ) (rows : List (ℕ × Charge)) → flat_map (ranked_at hour n []) rows ≡ []
no_commitments hour n [] = refl
no_commitments hour n (row ∷ rows) = no_commitments hour n rows

-- ---- so the order of all is that of each commitment in turn
in_turn : (hour n : ℕ) (cs : List (ℕ × CommitmentValue)) (rows : List (ℕ × Charge))
    → map (λ q. q.pair) (in_order ranked_before (flat_map (ranked_at hour n cs) rows)) ≡ flat_map (λ c. in_order has_lower_rate (filter_map (pair_for hour c) rows)) cs
in_turn hour n [] rows = ap (λ l. map (λ q. q.pair) (in_order ranked_before l)) (no_commitments hour n rows)
in_turn hour n (c ∷ cs) rows =
    let all : List RankedPair = flat_map (ranked_at hour n (c ∷ cs)) rows in
    ap (map (λ q. q.pair)) (parted ranked_before (is_upto n) (goes n) (stays n) all)
    ∙ (map-append (λ q. q.pair) (in_order ranked_before (filter (is_upto n) all)) (in_order ranked_before (filter (λ q. not (is_upto n q)) all))
    ∙ (rw (firsts hour n c cs rows, others hour n c cs rows, one_rank n (filter_map (pair_for hour c) rows), in_turn hour (n + 1) cs rows) refl))

pub pairs_in_turn : (order : List (ℕ × CommitmentValue)) (rows : List Charge) (hour : ℕ)
    → map (λ q. q.pair) (in_order ranked_before (flat_map (ranked_at hour 0 order) (enumerate_from 0 rows))) ≡ flat_map (pairs_of_commitment hour rows) order
unfolding pairs_of_commitment
pairs_in_turn order rows hour = in_turn hour 0 order (enumerate_from 0 rows)
