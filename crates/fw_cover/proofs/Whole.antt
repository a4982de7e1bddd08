-- No more is taken than there is, and only where a commitment applies.
use Rattle.std.proofs.Common.{◌≡◌, ℕ, ◌+◌, ◌-◌, ◌*◌, ◌/◌, ◌≤◌, ◌==◌, Bool, true, false, cond, nat_le, List, [], ◌∷◌, ◌++◌, get_or, filter, fold, sum_by, All, Option, Some, None, option_map, refl, subst, arith}
use Rattle.std.proofs.lemmas.Option.{slice_get-get_or}
use Rattle.std.specs.Prelude.{slice_get, slice_index}
use Rattle.std.specs.List.{enumerate_from, filter_map}
use Rattle.std.proofs.Math.Nat.{div-le_of_le-mul}
use Rattle.std.proofs.lemmas.Bool.{eqb-true}
use Rattle.std.proofs.lemmas.Bool.Decides.{nat_tests}
use Rattle.std.proofs.lemmas.List.Sums.{sum_by_push, sum_by-cons}
use Rattle.std.proofs.lemmas.List.Elements.{All-append, All-cons, All-filter, All-head, All-nil, All-tail}
use Rattle.fw_charge.specs.Charge.{Charge}
use Rattle.fw_terms.specs.Commitment.{CommitmentValue}
use Rattle.fw_cover.specs.Applies.{applied}
use Rattle.fw_cover.specs.Cover.{cover_of, taken_by, taken_by_all, taken_of_row, takes_something, used_of}
use Rattle.fw_cover.specs.Hour.{billed_of, capacities_of, hour_cover, left_of, quantities_of, unused_of}
use Rattle.fw_cover.specs.Meeting.{Meets}
use Rattle.fw_cover.specs.Order.{commitments_in_order, has_lower_rate, pair_for, pairs_of_commitment, pairs_of}
use Rattle.fw_cover.specs.Part.{need_of, part_of, spend_part_for}
use Rattle.fw_cover.specs.declared.pair.Pair.{Pair}
use Rattle.fw_cover.specs.declared.taken.Taken.{Taken}
use Rattle.fw_cover.proofs.Sorting.{two_ways}
use Rattle.fw_cover.proofs.Within.{all_enumerate, all_filter_map, all_flat_map, all_in_order, commitments_in_order_places}

-- ---- a part is within what is left of the row and of the commitment
abbrev IsFitting : ℕ → ℕ → ℕ → ℕ → Type 0
IsFitting quantity weight u left = (quantity ≤ u) × (weight ≤ left)

quotient_within : (need u left : ℕ) → left ≤ need → u * left / need ≤ u
quotient_within need u left h = div-le_of_le-mul need (grind arith)

spend_fits : (need u left : ℕ) → IsFitting (spend_part_for need u left).quantity (spend_part_for need u left).weight u left
spend_fits need u left = two_ways (need == 0)
    (λ none. rw none (omega arith, omega arith))
    (λ some. two_ways (nat_le need left)
    (λ fits. let within : need ≤ left = grind (arith, nat_tests) in rw (some, fits) (omega arith, within))
    (λ over. two_ways (u * left / need == 0)
    (λ nothing. rw (some, over, nothing) (omega arith, omega arith))
    (λ part. let less : left ≤ need = grind (arith, nat_tests) in rw (some, over, part) (quotient_within need u left less, omega arith))))

part_fits : (rate : Option ℕ) (b q u left : ℕ) → IsFitting (part_of rate b q u left).quantity (part_of rate b q u left).weight u left
part_fits None b q u left = (omega arith, omega arith)
part_fits (Some rate) b q u left = spend_fits (need_of b q rate u) u left

-- ---- what is taken by all pairs is within what there is
more_within : (same : Bool) (before more whole : ℕ) → before ≤ whole → (same ≡ true → more ≤ whole - before) → before + cond same more 0 ≤ whole
more_within true before more whole h fits = let m = fits refl in omega arith
more_within false before more whole h fits = omega arith

-- where each take is within what is left at its key, the takes at each key stay within the limit there
all_within : (key amount : Taken → ℕ) (limit : ℕ → ℕ) (step : List Taken → Pair → Taken)
    → ((done : List Taken) (p : Pair) → amount (step done p) ≤ limit (key (step done p)) - sum_by (λ t. cond (key t == key (step done p)) (amount t) 0) done)
    → (done : List Taken) (ps : List Pair) → ((x : ℕ) → sum_by (λ t. cond (key t == x) (amount t) 0) done ≤ limit x)
    → (x : ℕ) → sum_by (λ t. cond (key t == x) (amount t) 0) (fold (λ done p. done ++ step done p ∷ []) done ps) ≤ limit x
all_within key amount limit step fits done [] h x = h x
all_within key amount limit step fits done (p ∷ ps) h x = let t : Taken = step done p in
    all_within key amount limit step fits (done ++ t ∷ []) ps
    (λ y. rw (sum_by_push (λ (t : Taken). cond (key t == y) (amount t) 0) done t)
    (more_within (key t == y) _ (amount t) (limit y) (h y)
    (λ same. subst (λ (z : ℕ). amount t ≤ limit z - sum_by (λ t. cond (key t == z) (amount t) 0) done) (eqb-true (key t) y same) (fits done p))))
    x

fewer : {X : Type 0} (p : X → Bool) (f : X → ℕ) (xs : List X) → sum_by f (filter p xs) ≤ sum_by f xs
fewer p f [] = omega arith
fewer p f (x ∷ xs) = let rest = fewer p f xs in let whole = sum_by-cons f x xs in let kept = sum_by-cons f x (filter p xs) in
    two_ways (p x) (λ holds. rw holds (omega arith)) (λ fails. rw fails (omega arith))

-- so do the takes that are kept, of which each takes something
kept_within : (key amount : Taken → ℕ) (limit : ℕ → ℕ) (bs qs ks : List ℕ) (ps : List Pair)
    → ((done : List Taken) (p : Pair) → amount (taken_by bs qs ks done p) ≤ limit (key (taken_by bs qs ks done p)) - sum_by (λ t. cond (key t == key (taken_by bs qs ks done p)) (amount t) 0) done)
    → (x : ℕ) → sum_by (λ t. cond (key t == x) (amount t) 0) (cover_of bs qs ks ps) ≤ limit x
unfolding cover_of taken_by_all
kept_within key amount limit bs qs ks ps fits x =
    let all = all_within key amount limit (taken_by bs qs ks) fits [] ps (λ x. omega arith) x in
    let few = fewer takes_something (λ (t : Taken). cond (key t == x) (amount t) 0) (taken_by_all bs qs ks ps) in
    omega arith

pub row_within : (cs : List CommitmentValue) (rows : List Charge) (hour r : ℕ) → taken_of_row r (hour_cover cs rows hour) ≤ slice_index (quantities_of rows) r
unfolding hour_cover taken_by taken_of_row
row_within cs rows hour r =
    let bs : List ℕ = billed_of rows in
    let qs : List ℕ = quantities_of rows in
    let ks : List ℕ = capacities_of cs in
    kept_within (λ t. t.row) (λ t. t.quantity) (slice_index qs) bs qs ks (pairs_of cs rows hour)
    (λ done p. (part_fits p.rate (slice_index bs p.row) (slice_index qs p.row) (slice_index qs p.row - taken_of_row p.row done) (slice_index ks p.commitment - used_of p.commitment done)).0)
    r

pub commitment_within : (cs : List CommitmentValue) (rows : List Charge) (hour place : ℕ) → used_of place (hour_cover cs rows hour) ≤ slice_index (capacities_of cs) place
unfolding hour_cover taken_by used_of
commitment_within cs rows hour place =
    let bs : List ℕ = billed_of rows in
    let qs : List ℕ = quantities_of rows in
    let ks : List ℕ = capacities_of cs in
    kept_within (λ t. t.commitment) (λ t. t.weight) (slice_index ks) bs qs ks (pairs_of cs rows hour)
    (λ done p. (part_fits p.rate (slice_index bs p.row) (slice_index qs p.row) (slice_index qs p.row - taken_of_row p.row done) (slice_index ks p.commitment - used_of p.commitment done)).1)
    place

pub row_whole : (cs : List CommitmentValue) (rows : List Charge) (hour r : ℕ) → taken_of_row r (hour_cover cs rows hour) + left_of rows (hour_cover cs rows hour) r ≡ slice_index (quantities_of rows) r
unfolding left_of
row_whole cs rows hour r = let h = row_within cs rows hour r in omega arith

pub commitment_whole : (cs : List CommitmentValue) (rows : List Charge) (hour place : ℕ) → used_of place (hour_cover cs rows hour) + unused_of cs (hour_cover cs rows hour) place ≡ slice_index (capacities_of cs) place
unfolding unused_of
commitment_whole cs rows hour place = let h = commitment_within cs rows hour place in omega arith

-- ---- each pair is of a commitment that applies to the row
abbrev MeetsBy : List CommitmentValue → List Charge → ℕ → Pair → Type 0
MeetsBy cs rows hour p = Meets cs rows hour p.commitment p.row

meets_of : (cs : List CommitmentValue) (rows : List Charge) (hour : ℕ) (c : ℕ × CommitmentValue) (row : ℕ × Charge) → slice_get cs c.0 ≡ Some c.1 → slice_get rows row.0 ≡ Some row.1
    → (o : Option (Option ℕ)) → applied c.1 hour row.1 ≡ o → (p : Pair) → option_map (λ rate. record { commitment = c.0; row = row.0; rate = rate }) o ≡ Some p → MeetsBy cs rows hour p
meets_of cs rows hour c row at_place at_row None by p h = absurd (let e : None ≡ Some p = h in cc)
meets_of cs rows hour c row at_place at_row (Some rate) by p h =
    let made : record { commitment = c.0; row = row.0; rate = rate } ≡ p = cc in
    subst (MeetsBy cs rows hour) made (record { commitment = c.1; charge = row.1; at_place = at_place; at_row = at_row; applies = rw by refl })

commitment_meets : (cs : List CommitmentValue) (rows : List Charge) (hour : ℕ) (c : ℕ × CommitmentValue) → slice_get cs c.0 ≡ Some c.1 → All (MeetsBy cs rows hour) (pairs_of_commitment hour rows c)
unfolding pairs_of_commitment pair_for
commitment_meets cs rows hour c at =
    all_in_order has_lower_rate (MeetsBy cs rows hour) (filter_map (pair_for hour c) (enumerate_from 0 rows))
    (all_filter_map (MeetsBy cs rows hour) (pair_for hour c) (enumerate_from 0 rows)
    (all_enumerate (λ row. (p : Pair) → pair_for hour c row ≡ Some p → MeetsBy cs rows hour p) rows
    (λ k d lt p h. meets_of cs rows hour c (k, get_or rows k d) at (slice_get-get_or rows k d lt) (applied c.1 hour (get_or rows k d)) refl p h)))

pairs_meet : (cs : List CommitmentValue) (rows : List Charge) (hour : ℕ) → All (MeetsBy cs rows hour) (pairs_of cs rows hour)
unfolding pairs_of
pairs_meet cs rows hour =
    all_flat_map (MeetsBy cs rows hour) (pairs_of_commitment hour rows) (commitments_in_order cs)
    (λ k d lt. commitment_meets cs rows hour (get_or (commitments_in_order cs) k d) (commitments_in_order_places cs k d lt))

-- ---- and so is each take
takes_by : (Q : ℕ → ℕ → Type 0) (bs qs ks : List ℕ) (done : List Taken) (ps : List Pair) → All (λ t. Q t.commitment t.row) done → All (λ p. Q p.commitment p.row) ps
    → All (λ t. Q t.commitment t.row) (fold (λ done p. done ++ taken_by bs qs ks done p ∷ []) done ps)
unfolding taken_by
takes_by Q bs qs ks done [] was all = was
takes_by Q bs qs ks done (p ∷ ps) was all =
    let P : Pair → Type 0 = λ p. Q p.commitment p.row in
    let T : Taken → Type 0 = λ t. Q t.commitment t.row in
    takes_by Q bs qs ks (done ++ taken_by bs qs ks done p ∷ []) ps
    (All-append T done (taken_by bs qs ks done p ∷ []) was (All-cons T (taken_by bs qs ks done p) [] (All-head P p ps all) (All-nil T)))
    (All-tail P p ps all)

pub takes_meet : (cs : List CommitmentValue) (rows : List Charge) (hour : ℕ) → All (λ t. Meets cs rows hour t.commitment t.row) (hour_cover cs rows hour)
unfolding hour_cover cover_of taken_by_all
takes_meet cs rows hour =
    let T : Taken → Type 0 = λ t. Meets cs rows hour t.commitment t.row in
    All-filter takes_something T (taken_by_all (billed_of rows) (quantities_of rows) (capacities_of cs) (pairs_of cs rows hour))
    (takes_by (Meets cs rows hour) (billed_of rows) (quantities_of rows) (capacities_of cs) [] (pairs_of cs rows hour) (All-nil T) (pairs_meet cs rows hour))
