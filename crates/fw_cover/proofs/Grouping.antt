-- What was taken stands commitment by commitment, in the order of the commitments.
use Rattle.std.proofs.Common.{◌≡◌, ℕ, ◌+◌, ◌<◌, ◌==◌, Bool, true, false, List, [], ◌∷◌, ◌++◌, length, get_or, filter, All, Option, Some, None, option_map, IfSome, append-nil, refl, sym, ap, subst, ◌∙◌, arith}
use Rattle.std.specs.List.{enumerate_from, filter_map, flat_map}
use Rattle.std.proofs.lemmas.Bool.{eqb-false, ne_eqb, eq-eqb}
use Rattle.std.proofs.lemmas.List.FromFn.{length-enumerate_from, get_or-enumerate_from}
use Rattle.std.proofs.lemmas.List.Elements.{All-filter, All-nil, All-head, filter-append, All-tail}
use Rattle.fw_charge.specs.Charge.{Charge}
use Rattle.fw_terms.specs.Commitment.{CommitmentValue}
use Rattle.fw_cover.specs.Applies.{applied}
use Rattle.fw_cover.specs.Order.{in_order, insert_by, commitments_in_order, commitment_before, pair_for, has_lower_rate, pairs_of_commitment, pairs_of}
use Rattle.fw_cover.specs.Cover.{cover_of, takes_something}
use Rattle.fw_cover.specs.Hour.{hour_cover, takes_of, billed_of, quantities_of, capacities_of}
use Rattle.fw_cover.specs.declared.pair.Pair.{Pair}
use Rattle.fw_cover.specs.declared.taken.Taken.{Taken}
use Rattle.fw_cover.proofs.Sorting.{two_ways, insert_all}
use Rattle.fw_cover.proofs.Within.{all_in_order, all_filter_map, all_flat_map}
use Rattle.fw_cover.proofs.ByCommitment.{filter_none, filter_every}
use Rattle.fw_cover.proofs.Taking.{taken_after, all_taken, taken_more, taken_from}

-- ---- the places of the order
abbrev pub PlacesApart : List (ℕ × CommitmentValue) → Type 0
PlacesApart [] = Unit {0}
PlacesApart (x ∷ xs) = All (λ y. (y.0 == x.0) ≡ false) xs × PlacesApart xs

flipped : (a b : ℕ) → (a == b) ≡ false → (b == a) ≡ false
flipped a b h = ne_eqb b a (λ e. eqb-false a b h (sym e))

insert_apart : (before : ℕ × CommitmentValue → ℕ × CommitmentValue → Bool) (x : ℕ × CommitmentValue) (ys : List (ℕ × CommitmentValue)) → All (λ y. (y.0 == x.0) ≡ false) ys → PlacesApart ys → PlacesApart (insert_by before x ys)
insert_apart before x [] all h = (All-nil (λ y. (y.0 == x.0) ≡ false), tt)
insert_apart before x (z ∷ zs) all h = let P : ℕ × CommitmentValue → Type 0 = λ y. (y.0 == x.0) ≡ false in two_ways (before z x)
    (λ holds. rw holds (insert_all before (λ w. (w.0 == z.0) ≡ false) x zs (flipped z.0 x.0 (All-head P z zs all)) h.0, insert_apart before x zs (All-tail P z zs all) h.1))
    (λ fails. rw fails (all, h))

order_apart : (before : ℕ × CommitmentValue → ℕ × CommitmentValue → Bool) (xs : List (ℕ × CommitmentValue)) → PlacesApart xs → PlacesApart (in_order before xs)
order_apart before [] h = tt
order_apart before (x ∷ xs) h = insert_apart before x (in_order before xs) (all_in_order before (λ y. (y.0 == x.0) ≡ false) xs h.0) (order_apart before xs h.1)

enumerate_apart : (n : ℕ) (cs : List CommitmentValue) → PlacesApart (enumerate_from n cs)
enumerate_apart n [] = tt
enumerate_apart n (c ∷ cs) = (
  λ k d lt. let lt' : k < length cs = omega (arith, lt, length-enumerate_from (n + 1) cs) in
      rw (get_or-enumerate_from (n + 1) cs k d lt') (ne_eqb (n + 1 + k) n (λ e. omega (arith, e))),
  enumerate_apart (n + 1) cs,
)

-- each commitment of the order stands at a place of its own
pub order_places_apart : (cs : List CommitmentValue) → PlacesApart (commitments_in_order cs)
unfolding commitments_in_order
order_places_apart cs = order_apart commitment_before (enumerate_from 0 cs) (enumerate_apart 0 cs)

-- ---- each pair is of its commitment
own : (c : ℕ × CommitmentValue) (row : ℕ × Charge) (o : Option (Option ℕ)) (p : Pair) → option_map (λ rate. record { commitment = c.0; row = row.0; rate = rate }) o ≡ Some p → p.commitment ≡ c.0
own c row None p h = absurd (let e : None ≡ Some p = h in cc)
own c row (Some rate) p h = subst (λ o. IfSome o (λ p. p.commitment ≡ c.0)) h refl

pub pairs_own : (hour : ℕ) (rows : List Charge) (c : ℕ × CommitmentValue) → All (λ p. p.commitment ≡ c.0) (pairs_of_commitment hour rows c)
unfolding pairs_of_commitment pair_for
pairs_own hour rows c = let P : Pair → Type 0 = λ p. p.commitment ≡ c.0 in
    all_in_order has_lower_rate P (filter_map (pair_for hour c) (enumerate_from 0 rows))
    (all_filter_map P (pair_for hour c) (enumerate_from 0 rows) (λ k d lt p h. own c (get_or (enumerate_from 0 rows) k d) (applied c.1 hour (get_or (enumerate_from 0 rows) k d).1) p h))

-- ---- and so is what it takes
of_first : (k : ℕ) (front back : List Taken) → All (λ t. (t.commitment == k) ≡ true) front → All (λ t. (t.commitment == k) ≡ false) back → takes_of k (front ++ back) ≡ front
unfolding takes_of
of_first k front back is other = let at : Taken → Bool = λ t. t.commitment == k in
    filter-append at front back ∙ (rw (filter_every at front is, filter_none at back other) (append-nil front))

pub of_later : (k : ℕ) (front back : List Taken) → All (λ t. (t.commitment == k) ≡ false) front → takes_of k (front ++ back) ≡ takes_of k back
unfolding takes_of
of_later k front back other = let at : Taken → Bool = λ t. t.commitment == k in
    filter-append at front back ∙ (rw (filter_none at front other) refl)

flat_agree : {X Y : Type 0} (f g : X → List Y) (xs : List X) → All (λ x. f x ≡ g x) xs → flat_map f xs ≡ flat_map g xs
flat_agree f g [] all = refl
flat_agree {X} f g (x ∷ xs) all = let P : X → Type 0 = λ x. f x ≡ g x in rw (All-head P x xs all, flat_agree f g xs (All-tail P x xs all)) refl

-- what was taken by the pairs of commitments in turn, of which each has a place of its own
grouped : (bs qs ks : List ℕ) (pairs : ℕ × CommitmentValue → List Pair) → ((c : ℕ × CommitmentValue) → All (λ p. p.commitment ≡ c.0) (pairs c)) → (done : List Taken) (cs : List (ℕ × CommitmentValue)) → PlacesApart cs
    → filter takes_something (taken_after bs qs ks done (flat_map pairs cs)) ≡ flat_map (λ c. takes_of c.0 (filter takes_something (taken_after bs qs ks done (flat_map pairs cs)))) cs
grouped bs qs ks pairs is done [] apart = refl
grouped bs qs ks pairs is done (c ∷ cs) apart =
    let first : List Taken = taken_after bs qs ks done (pairs c) in
    let later : List Taken = taken_after bs qs ks (done ++ first) (flat_map pairs cs) in
    let front : List Taken = filter takes_something first in
    let back : List Taken = filter takes_something later in
    let parts : filter takes_something (taken_after bs qs ks done (pairs c ++ flat_map pairs cs)) ≡ front ++ back = ap (filter takes_something) (taken_more bs qs ks done (pairs c) (flat_map pairs cs)) ∙ filter-append takes_something first later in
    let of_front : (P : ℕ → Type 0) → P c.0 → All (λ t. P t.commitment) front =
    λ P h. All-filter takes_something (λ t. P t.commitment) first (taken_from P bs qs ks done (pairs c) (λ k d lt. subst P (sym (is c k d lt)) h)) in
    let of_back : All (λ t. (t.commitment == c.0) ≡ false) back = All-filter takes_something (λ t. (t.commitment == c.0) ≡ false) later
    (taken_from (λ x. (x == c.0) ≡ false) bs qs ks (done ++ first) (flat_map pairs cs)
    (all_flat_map (λ p. (p.commitment == c.0) ≡ false) pairs cs (λ k d lt j e lt'. subst (λ x. (x == c.0) ≡ false) (sym (is (get_or cs k d) j e lt')) (apart.0 k d lt)))) in
    let here : takes_of c.0 (front ++ back) ≡ front = of_first c.0 front back (of_front (λ x. (x == c.0) ≡ true) (eq-eqb c.0 c.0 refl)) of_back in
    let there : flat_map (λ d. takes_of d.0 (front ++ back)) cs ≡ back =
    flat_agree (λ d. takes_of d.0 (front ++ back)) (λ d. takes_of d.0 back) cs (λ k d lt. of_later (get_or cs k d).0 front back (of_front (λ x. (x == (get_or cs k d).0) ≡ false) (flipped (get_or cs k d).0 c.0 (apart.0 k d lt))))
    ∙ sym (grouped bs qs ks pairs is (done ++ first) cs apart.1) in
    parts ∙ sym (ap (λ l. takes_of c.0 l ++ flat_map (λ d. takes_of d.0 l) cs) parts
    ∙ (ap (λ l. l ++ flat_map (λ d. takes_of d.0 (front ++ back)) cs) here ∙ ap (λ l. front ++ l) there))

-- an order that leaves out only commitments without pairs
pub grouped_by : (cs : List CommitmentValue) (rows : List Charge) (hour : ℕ) (order : List (ℕ × CommitmentValue)) → PlacesApart order → flat_map (pairs_of_commitment hour rows) order ≡ pairs_of cs rows hour
    → hour_cover cs rows hour ≡ flat_map (λ c. takes_of c.0 (hour_cover cs rows hour)) order
unfolding hour_cover cover_of
grouped_by cs rows hour order apart are = let bs : List ℕ = billed_of rows in
    let qs : List ℕ = quantities_of rows in
    let ks : List ℕ = capacities_of cs in
    rw (← are, all_taken bs qs ks (flat_map (pairs_of_commitment hour rows) order)) (grouped bs qs ks (pairs_of_commitment hour rows) (pairs_own hour rows) [] order apart)

pub cover_grouped : (cs : List CommitmentValue) (rows : List Charge) (hour : ℕ) → hour_cover cs rows hour ≡ flat_map (λ c. takes_of c.0 (hour_cover cs rows hour)) (commitments_in_order cs)
unfolding pairs_of
cover_grouped cs rows hour = grouped_by cs rows hour (commitments_in_order cs) (order_places_apart cs) refl
