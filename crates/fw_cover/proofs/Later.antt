-- A commitment that goes after all others takes what they leave, and changes nothing of what they take.
use Rattle.std.proofs.Common.{◌≡◌, ◌∙◌, ℕ, ◌<◌, ◌==◌, Bool, true, false, List, [], ◌∷◌, ◌++◌, length, get_or, filter, All, refl, sym, ap, subst, arith, append-nil}
use Rattle.std.specs.Prelude.{slice_index}
use Rattle.std.specs.List.{enumerate_from, flat_map}
use Rattle.std.proofs.Math.ListN.{get_or-append}
use Rattle.std.proofs.lemmas.Bool.{eq-eqb, ne_eqb}
use Rattle.std.proofs.lemmas.Grind.{flat_map-append}
use Rattle.std.proofs.lemmas.List.{length-map, map-append}
use Rattle.std.proofs.lemmas.List.Elements.{All-cons, All-filter, All-head, All-nil, All-tail, filter-append}
use Rattle.std.proofs.lemmas.Option.{slice_get_within}
use Rattle.fw_charge.specs.Charge.{Charge}
use Rattle.fw_terms.specs.Commitment.{CommitmentValue}
use Rattle.fw_cover.specs.Cover.{cover_of, taken_by, takes_something}
use Rattle.fw_cover.specs.Hour.{billed_of, capacities_of, hour_cover, quantities_of, takes_of}
use Rattle.fw_cover.specs.Order.{GoesLast, commitment_before, commitments_in_order, in_order, insert_by, pairs_of, pairs_of_commitment}
use Rattle.fw_cover.specs.declared.pair.Pair.{Pair}
use Rattle.fw_cover.specs.declared.taken.Taken.{Taken}
use Rattle.fw_cover.proofs.ByCommitment.{filter_every, insert_before}
use Rattle.fw_cover.proofs.Grouping.{of_later, pairs_own}
use Rattle.fw_cover.proofs.Listing.{enumerate_push}
use Rattle.fw_cover.proofs.Taking.{all_taken, taken_after, taken_from, taken_more}
use Rattle.fw_cover.proofs.Within.{all_flat_map, commitments_in_order_places}

order_push : {X : Type 0} (before : X → X → Bool) (xs : List X) (x : X) → All (λ y. before x y ≡ false) xs → in_order before (xs ++ x ∷ []) ≡ in_order before xs ++ x ∷ []
order_push before [] x last = refl
order_push {X} before (y ∷ xs) x last =
    let P : X → Type 0 = λ y. before x y ≡ false in
    let Q : X → Type 0 = λ z. before z y ≡ false in
    ap (insert_by before y) (order_push before xs x (All-tail P y xs last))
    ∙ insert_before before y (in_order before xs) (x ∷ []) (All-cons Q x [] (All-head P y xs last) (All-nil Q))

pairs_push : (cs : List CommitmentValue) (c : CommitmentValue) (rows : List Charge) (hour : ℕ) → GoesLast cs c
    → pairs_of (cs ++ c ∷ []) rows hour ≡ pairs_of cs rows hour ++ pairs_of_commitment hour rows (length cs, c)
unfolding pairs_of commitments_in_order
pairs_push cs c rows hour last =
    let f : ℕ × CommitmentValue → List Pair = pairs_of_commitment hour rows in
    let order : List (ℕ × CommitmentValue) = in_order commitment_before (enumerate_from 0 cs) in
    ap (λ l. flat_map f (in_order commitment_before l)) (enumerate_push 0 (length cs) cs c (omega arith))
    ∙ (ap (flat_map f) (order_push commitment_before (enumerate_from 0 cs) (length cs, c) last)
    ∙ (flat_map-append f order ((length cs, c) ∷ []) ∙ ap (λ l. flat_map f order ++ l) (append-nil (f (length cs, c)))))

-- pairs of commitments that keep their capacity take the same
same_taken : (bs qs ks ks' : List ℕ) (done : List Taken) (ps : List Pair) → All (λ p. slice_index ks' p.commitment ≡ slice_index ks p.commitment) ps → taken_after bs qs ks' done ps ≡ taken_after bs qs ks done ps
unfolding taken_by
same_taken bs qs ks ks' done [] same = refl
same_taken bs qs ks ks' done (p ∷ ps) same =
    let P : Pair → Type 0 = λ p. slice_index ks' p.commitment ≡ slice_index ks p.commitment in
    let t : Taken = taken_by bs qs ks done p in
    let first : taken_by bs qs ks' done p ≡ t = rw (All-head P p ps same) refl in
    ap (λ (x : Taken). x ∷ taken_after bs qs ks' (done ++ x ∷ []) ps) first ∙ ap (λ l. t ∷ l) (same_taken bs qs ks ks' (done ++ t ∷ []) ps (All-tail P p ps same))

pairs_inside : (cs : List CommitmentValue) (rows : List Charge) (hour : ℕ) → All (λ p. p.commitment < length cs) (pairs_of cs rows hour)
unfolding pairs_of
pairs_inside cs rows hour =
    all_flat_map (λ p. p.commitment < length cs) (pairs_of_commitment hour rows) (commitments_in_order cs)
    (λ k d lt j e l.
    let c : ℕ × CommitmentValue = get_or (commitments_in_order cs) k d in
    subst (λ (x : ℕ). x < length cs) (sym (pairs_own hour rows c j e l)) (slice_get_within cs c.0 c.1 (commitments_in_order_places cs k d lt)))

pub cover_push : (cs : List CommitmentValue) (c : CommitmentValue) (rows : List Charge) (hour : ℕ) → GoesLast cs c
    → hour_cover (cs ++ c ∷ []) rows hour ≡ hour_cover cs rows hour ++ takes_of (length cs) (hour_cover (cs ++ c ∷ []) rows hour)
unfolding hour_cover cover_of takes_of
cover_push cs c rows hour last =
    let bs : List ℕ = billed_of rows in
    let qs : List ℕ = quantities_of rows in
    let ks : List ℕ = capacities_of cs in
    let ks' : List ℕ = capacities_of (cs ++ c ∷ []) in
    let ps : List Pair = pairs_of cs rows hour in
    let own : List Pair = pairs_of_commitment hour rows (length cs, c) in
    let first : List Taken = taken_after bs qs ks [] ps in
    let later : List Taken = taken_after bs qs ks' first own in
    let front : List Taken = filter takes_something first in
    let back : List Taken = filter takes_something later in
    let at : Taken → Bool = λ t. t.commitment == length cs in
    let kept : All (λ p. slice_index ks' p.commitment ≡ slice_index ks p.commitment) ps =
    (λ k d lt.
    let inside : (get_or ps k d).commitment < length ks = omega (arith, pairs_inside cs rows hour k d lt, length-map cs (λ c. c.capacity)) in
    ap (λ l. slice_index l (get_or ps k d).commitment) (map-append (λ c. c.capacity) cs (c ∷ [])) ∙ get_or-append ks (c.capacity ∷ []) 0 (get_or ps k d).commitment inside) in
    let alone : taken_after bs qs ks' [] ps ≡ first = same_taken bs qs ks ks' [] ps kept in
    let all : taken_after bs qs ks' [] (ps ++ own) ≡ first ++ later = taken_more bs qs ks' [] ps own ∙ ap (λ l. l ++ taken_after bs qs ks' l own) alone in
    let parts : filter takes_something (taken_after bs qs ks' [] (pairs_of (cs ++ c ∷ []) rows hour)) ≡ front ++ back =
    ap (λ l. filter takes_something (taken_after bs qs ks' [] l)) (pairs_push cs c rows hour last) ∙ (ap (filter takes_something) all ∙ filter-append takes_something first later) in
    let none : All (λ t. (t.commitment == length cs) ≡ false) front =
    All-filter takes_something (λ t. (t.commitment == length cs) ≡ false) first
    (taken_from (λ x. (x == length cs) ≡ false) bs qs ks [] ps (λ k d lt. ne_eqb _ _ (λ e. omega (arith, e, pairs_inside cs rows hour k d lt)))) in
    let its : All (λ t. (t.commitment == length cs) ≡ true) back =
    All-filter takes_something (λ t. (t.commitment == length cs) ≡ true) later
    (taken_from (λ x. (x == length cs) ≡ true) bs qs ks' first own (λ k d lt. eq-eqb _ _ (pairs_own hour rows (length cs, c) k d lt))) in
    let mine : filter at (front ++ back) ≡ back = of_later (length cs) front back none ∙ filter_every at back its in
    rw (all_taken bs qs ks' (pairs_of (cs ++ c ∷ []) rows hour), all_taken bs qs ks ps, parts) (ap (λ l. front ++ l) (sym mine))
