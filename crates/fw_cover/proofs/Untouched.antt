-- A row that no commitment applies to changes nothing but the places of the rows after it.
use Rattle.std.proofs.Common.{◌≡◌, ℕ, zero, suc, ◌+◌, ◌-◌, ◌<◌, ◌≤◌, ◌==◌, true, false, cond, nat_lt, List, [], ◌∷◌, ◌++◌, length, get_or, map, filter, sum_by, All, Option, Some, None, option_map, refl, sym, ap, ◌∙◌, add-one, arith}
use Rattle.std.specs.Prelude.{slice_get, slice_index}
use Rattle.std.specs.List.{enumerate_from, filter_map, flat_map, cons_option}
use Rattle.std.proofs.Math.ListN.{get_or-append}
use Rattle.std.proofs.Math.Seq.{get_or-append_right}
use Rattle.std.proofs.lemmas.Bool.{lt-ltb, le-ltb, ltb-true, ltb-false, eqb-true, eqb-false, eq-eqb, ne_eqb}
use Rattle.std.proofs.lemmas.List.{map-append, length-map, get_or_at}
use Rattle.std.proofs.lemmas.List.Sums.{sum_by-cons}
use Rattle.std.proofs.lemmas.List.Elements.{All-head, All-map, All-tail}
use Rattle.fw_charge.specs.Charge.{Charge}
use Rattle.fw_terms.specs.Commitment.{CommitmentValue}
use Rattle.fw_cover.specs.Applies.{applied}
use Rattle.fw_cover.specs.Cover.{cover_of, taken_by, taken_of_row, used_of, takes_something}
use Rattle.fw_cover.specs.Hour.{quantity_of, billed_of, quantities_of, capacities_of, hour_cover, left_of, takes_of, unused_of}
use Rattle.fw_cover.specs.Order.{in_order, commitment_before, commitments_in_order, pair_for, has_lower_rate, pairs_of_commitment, pairs_of}
use Rattle.fw_cover.specs.Untouched.{IsUntouched, place_past, take_past}
use Rattle.fw_cover.specs.declared.pair.Pair.{Pair}
use Rattle.fw_cover.specs.declared.taken.Taken.{Taken}
use Rattle.fw_cover.proofs.Index.{filter_map_of}
use Rattle.fw_cover.proofs.Sorting.{two_ways, map_in_order}
use Rattle.fw_cover.proofs.Taking.{taken_after, all_taken}
use Rattle.fw_cover.proofs.Within.{all_in_order, all_enumerate}

-- ---- places, once there is one row more
-- two places stay apart, and no row has the new one's place
past_same : (at a b : ℕ) → (place_past at a == place_past at b) ≡ (a == b)
past_same at a b = two_ways (a == b)
    (λ same. eq-eqb (place_past at a) (place_past at b) (ap (place_past at) (eqb-true a b same)) ∙ sym same)
    (λ other. ne_eqb (place_past at a) (place_past at b) (λ e. eqb-false a b other (back a b e)) ∙ sym other)
  where
    back : (a b : ℕ) → place_past at a ≡ place_past at b → a ≡ b
    back a b e = two_ways (nat_lt a at)
        (λ la. two_ways (nat_lt b at)
        (λ lb. rw (la, lb) at e)
        (λ gb. let e' : a ≡ b + 1 = rw (la, gb) at e in absurd (omega (arith, e', ltb-true a at la, ltb-false b at gb))))
        (λ ga. two_ways (nat_lt b at)
        (λ lb. let e' : a + 1 ≡ b = rw (ga, lb) at e in absurd (omega (arith, e', ltb-false a at ga, ltb-true b at lb)))
        (λ gb. let e' : a + 1 ≡ b + 1 = rw (ga, gb) at e in omega (arith, e')))

past_never : (at a : ℕ) → (place_past at a == at) ≡ false
past_never at a = two_ways (nat_lt a at)
    (λ less. rw less (ne_eqb a at (λ e. omega (arith, e, ltb-true a at less))))
    (λ least. rw least (ne_eqb (a + 1) at (λ e. omega (arith, e, ltb-false a at least))))

-- each row keeps its numbers
number_past : (f : Charge → ℕ) (before after : List Charge) (row : Charge) (r : ℕ) → slice_index (map f (before ++ row ∷ after)) (place_past (length before) r) ≡ slice_index (map f (before ++ after)) r
number_past f before after row r =
    let xs : List ℕ = map f before in
    let ys : List ℕ = map f after in
    let long : length xs ≡ length before = length-map before f in
    let whole : map f (before ++ row ∷ after) ≡ xs ++ f row ∷ ys = map-append f before (row ∷ after) in
    let less : map f (before ++ after) ≡ xs ++ ys = map-append f before after in
    two_ways (nat_lt r (length before))
    (λ early. let lt : r < length xs = omega (arith, long, ltb-true r (length before) early) in
    rw (early, whole, less) (get_or-append xs (f row ∷ ys) 0 r lt ∙ sym (get_or-append xs ys 0 r lt)))
    (λ late. let le : length xs ≤ r = omega (arith, long, ltb-false r (length before) late) in
    let next : r + 1 - length xs ≡ suc (r - length xs) = omega (arith, le) in
    rw (late, whole, less) (get_or-append_right xs (f row ∷ ys) (r + 1) 0 (omega (arith, le)) ∙ (ap (λ k. get_or (f row ∷ ys) k 0) next ∙ sym (get_or-append_right xs ys r 0 le))))

number_of : (f : Charge → ℕ) (before after : List Charge) (row : Charge) → slice_index (map f (before ++ row ∷ after)) (length before) ≡ f row
number_of f before after row = rw (map-append f before (row ∷ after)) (get_or_at (map f before) (f row) (map f after) 0 (length before) (length-map before f))

-- and the row at a place is the one that was there
pub charge_past : (before after : List Charge) (row : Charge) (r : ℕ) → slice_get (before ++ row ∷ after) (place_past (length before) r) ≡ slice_get (before ++ after) r
charge_past [] after row r = let least : nat_lt r 0 ≡ false = le-ltb r 0 (omega arith) in rw (least, add-one) refl
charge_past (x ∷ before) after row zero = let less : nat_lt 0 (length (x ∷ before)) ≡ true = lt-ltb 0 (length (x ∷ before)) (omega arith) in rw less refl
charge_past (x ∷ before) after row (suc r) = let known = charge_past before after row r in
    two_ways (nat_lt r (length before))
    (λ early. let less : nat_lt (suc r) (length (x ∷ before)) ≡ true = lt-ltb (suc r) (length (x ∷ before)) (omega (arith, ltb-true r (length before) early)) in
    rw less (rw early at known))
    (λ late. let least : nat_lt (suc r) (length (x ∷ before)) ≡ false = le-ltb (suc r) (length (x ∷ before)) (omega (arith, ltb-false r (length before) late)) in
    rw (least, add-one) (rw (late, add-one) at known))

-- ---- what was taken of each row, and used of each commitment
sum_alike : (f g : Taken → ℕ) (h : Taken → Taken) → ((t : Taken) → f (h t) ≡ g t) → (ts : List Taken) → sum_by f (map h ts) ≡ sum_by g ts
sum_alike f g h is [] = refl
sum_alike f g h is (t ∷ ts) = rw (sum_by-cons f (h t) (map h ts), sum_by-cons g t ts, is t, sum_alike f g h is ts) refl

sum_nothing : (f : Taken → ℕ) (h : Taken → Taken) → ((t : Taken) → f (h t) ≡ 0) → (ts : List Taken) → sum_by f (map h ts) ≡ 0
sum_nothing f h is [] = refl
sum_nothing f h is (t ∷ ts) = rw (sum_by-cons f (h t) (map h ts), is t, sum_nothing f h is ts) refl

row_past : (at r : ℕ) (ts : List Taken) → taken_of_row (place_past at r) (map (take_past at) ts) ≡ taken_of_row r ts
unfolding taken_of_row
row_past at r ts = sum_alike (λ t. cond (t.row == place_past at r) t.quantity 0) (λ t. cond (t.row == r) t.quantity 0) (take_past at) (λ t. ap (λ b. cond b t.quantity 0) (past_same at t.row r)) ts

row_none : (at : ℕ) (ts : List Taken) → taken_of_row at (map (take_past at) ts) ≡ 0
unfolding taken_of_row
row_none at ts = sum_nothing (λ t. cond (t.row == at) t.quantity 0) (take_past at) (λ t. ap (λ b. cond b t.quantity 0) (past_never at t.row)) ts

used_past : (at c : ℕ) (ts : List Taken) → used_of c (map (take_past at) ts) ≡ used_of c ts
unfolding used_of
used_past at c ts = sum_alike (λ t. cond (t.commitment == c) t.weight 0) (λ t. cond (t.commitment == c) t.weight 0) (take_past at) (λ t. refl) ts

-- ---- what pairs take
abbrev pair_past : ℕ → Pair → Pair
pair_past at p = record p { row = place_past at p.row }

-- bs and qs are the numbers of the rows without the new one, bs' and qs' with it
abbrev IsPast : ℕ → List ℕ → List ℕ → Type 0
IsPast at xs ys = (r : ℕ) → slice_index ys (place_past at r) ≡ slice_index xs r

one_past : (at : ℕ) (bs bs' qs qs' ks : List ℕ) → IsPast at bs bs' → IsPast at qs qs' → (done : List Taken) (p : Pair) → taken_by bs' qs' ks (map (take_past at) done) (pair_past at p) ≡ take_past at (taken_by bs qs ks done p)
unfolding taken_by
one_past at bs bs' qs qs' ks costs quantities done p = rw (costs p.row, quantities p.row, row_past at p.row done, used_past at p.commitment done) refl

all_past : (at : ℕ) (bs bs' qs qs' ks : List ℕ) → IsPast at bs bs' → IsPast at qs qs' → (done : List Taken) (ps : List Pair)
    → taken_after bs' qs' ks (map (take_past at) done) (map (pair_past at) ps) ≡ map (take_past at) (taken_after bs qs ks done ps)
all_past at bs bs' qs qs' ks costs quantities done [] = refl
all_past at bs bs' qs qs' ks costs quantities done (p ∷ ps) =
    let t : Taken = taken_by bs qs ks done p in
    let same : taken_by bs' qs' ks (map (take_past at) done) (pair_past at p) ≡ take_past at t = one_past at bs bs' qs qs' ks costs quantities done p in
    let more : map (take_past at) done ++ take_past at t ∷ [] ≡ map (take_past at) (done ++ t ∷ []) = sym (map-append (take_past at) done (t ∷ [])) in
    ap (λ x. x ∷ taken_after bs' qs' ks (map (take_past at) done ++ x ∷ []) (map (pair_past at) ps)) same
    ∙ ap (λ l. take_past at t ∷ l) (ap (λ l. taken_after bs' qs' ks l (map (pair_past at) ps)) more ∙ all_past at bs bs' qs qs' ks costs quantities (done ++ t ∷ []) ps)

-- ---- the pairs
map_more : (f : Pair → Pair) (o : Option Pair) (ps : List Pair) → map f (cons_option o ps) ≡ cons_option (option_map f o) (map f ps)
map_more f None ps = refl
map_more f (Some p) ps = refl

-- the pair of a row at a place, and of the same row once it has another
at_other : (at k m : ℕ) (c : ℕ × CommitmentValue) (o : Option (Option ℕ)) → place_past at k ≡ m
    → option_map (λ rate. let p : Pair = record { commitment = c.0; row = m; rate = rate } in p) o ≡ option_map (pair_past at) (option_map (λ rate. let p : Pair = record { commitment = c.0; row = k; rate = rate } in p) o)
at_other at k m c None e = refl
at_other at k m c (Some rate) e = ap (λ r. Some (record { commitment = c.0; row = r; rate = rate })) (sym e)

-- the rows after the new one
later_past : (at k hour : ℕ) (c : ℕ × CommitmentValue) (after : List Charge) → at ≤ k → filter_map (pair_for hour c) (enumerate_from (k + 1) after) ≡ map (pair_past at) (filter_map (pair_for hour c) (enumerate_from k after))
unfolding pair_for
later_past at k hour c [] le = refl
later_past at k hour c (x ∷ after) le =
    let least : nat_lt k at ≡ false = le-ltb k at le in
    let here : place_past at k ≡ k + 1 = rw least refl in
    rw (map_more (pair_past at) (pair_for hour c (k, x)) (filter_map (pair_for hour c) (enumerate_from (k + 1) after)), at_other at k (k + 1) c (applied c.1 hour x) here, later_past at (k + 1) hour c after (omega (arith, le))) refl

-- all rows, of which the first has place k
matched_past : (at k hour : ℕ) (c : ℕ × CommitmentValue) (before after : List Charge) (row : Charge) → applied c.1 hour row ≡ None → at ≡ k + length before
    → filter_map (pair_for hour c) (enumerate_from k (before ++ row ∷ after)) ≡ map (pair_past at) (filter_map (pair_for hour c) (enumerate_from k (before ++ after)))
unfolding pair_for
matched_past at k hour c [] after row none e = rw none (later_past at k hour c after (omega (arith, e)))
matched_past at k hour c (x ∷ before) after row none e =
    let less : nat_lt k at ≡ true = lt-ltb k at (omega (arith, e)) in
    let here : place_past at k ≡ k = rw less refl in
    ap (λ o. cons_option o (filter_map (pair_for hour c) (enumerate_from (k + 1) (before ++ row ∷ after)))) (at_other at k k c (applied c.1 hour x) here)
    ∙ (ap (cons_option (option_map (pair_past at) (pair_for hour c (k, x)))) (matched_past at (k + 1) hour c before after row none (omega (arith, e)))
    ∙ sym (map_more (pair_past at) (pair_for hour c (k, x)) (filter_map (pair_for hour c) (enumerate_from (k + 1) (before ++ after)))))

commitment_past : (hour : ℕ) (before after : List Charge) (row : Charge) (c : ℕ × CommitmentValue) → applied c.1 hour row ≡ None
    → pairs_of_commitment hour (before ++ row ∷ after) c ≡ map (pair_past (length before)) (pairs_of_commitment hour (before ++ after) c)
unfolding pairs_of_commitment
commitment_past hour before after row c none =
    ap (in_order has_lower_rate) (matched_past (length before) 0 hour c before after row none (omega arith))
    ∙ sym (map_in_order (pair_past (length before)) has_lower_rate (filter_map (pair_for hour c) (enumerate_from 0 (before ++ after))))

flat_past : {X Y : Type 0} (f g : X → List Y) (h : Y → Y) (xs : List X) → All (λ x. f x ≡ map h (g x)) xs → flat_map f xs ≡ map h (flat_map g xs)
flat_past f g h [] all = refl
flat_past {X} f g h (x ∷ xs) all = let P : X → Type 0 = λ x. f x ≡ map h (g x) in
    rw (All-head P x xs all, flat_past f g h xs (All-tail P x xs all)) (sym (map-append h (g x) (flat_map g xs)))

-- no commitment of the order applies either
none_in_order : (cs : List CommitmentValue) (hour : ℕ) (row : Charge) → IsUntouched cs hour row → All (λ c. applied c.1 hour row ≡ None) (commitments_in_order cs)
unfolding commitments_in_order
none_in_order cs hour row none = let P : ℕ × CommitmentValue → Type 0 = λ c. applied c.1 hour row ≡ None in
    all_in_order commitment_before P (enumerate_from 0 cs) (all_enumerate P cs (λ k d lt. none k d lt))

pairs_past : (cs : List CommitmentValue) (before after : List Charge) (row : Charge) (hour : ℕ) → IsUntouched cs hour row → pairs_of cs (before ++ row ∷ after) hour ≡ map (pair_past (length before)) (pairs_of cs (before ++ after) hour)
unfolding pairs_of
pairs_past cs before after row hour none =
    flat_past (pairs_of_commitment hour (before ++ row ∷ after)) (pairs_of_commitment hour (before ++ after)) (pair_past (length before)) (commitments_in_order cs)
    (λ k d lt. commitment_past hour before after row (get_or (commitments_in_order cs) k d) (none_in_order cs hour row none k d lt))

pub has_no_pair : (cs : List CommitmentValue) (before after : List Charge) (row : Charge) (hour : ℕ) → IsUntouched cs hour row → All (λ p. (p.row == length before) ≡ false) (pairs_of cs (before ++ row ∷ after) hour)
has_no_pair cs before after row hour none = let P : Pair → Type 0 = λ p. (p.row == length before) ≡ false in
    rw (pairs_past cs before after row hour none) (All-map P (pair_past (length before)) (pairs_of cs (before ++ after) hour) (λ k d lt. past_never (length before) (get_or (pairs_of cs (before ++ after) hour) k d).row))

-- ---- the cover
pub cover_past : (cs : List CommitmentValue) (before after : List Charge) (row : Charge) (hour : ℕ) → IsUntouched cs hour row → hour_cover cs (before ++ row ∷ after) hour ≡ map (take_past (length before)) (hour_cover cs (before ++ after) hour)
unfolding hour_cover cover_of
cover_past cs before after row hour none =
    let at : ℕ = length before in
    let bs : List ℕ = billed_of (before ++ after) in
    let bs' : List ℕ = billed_of (before ++ row ∷ after) in
    let qs : List ℕ = quantities_of (before ++ after) in
    let qs' : List ℕ = quantities_of (before ++ row ∷ after) in
    let ks : List ℕ = capacities_of cs in
    let ps : List Pair = pairs_of cs (before ++ after) hour in
    let costs : IsPast at bs bs' = number_past _ before after row in
    let quantities : IsPast at qs qs' = number_past quantity_of before after row in
    ap (λ l. filter takes_something l) (all_taken bs' qs' ks (pairs_of cs (before ++ row ∷ after) hour) ∙ (ap (taken_after bs' qs' ks []) (pairs_past cs before after row hour none) ∙ all_past at bs bs' qs qs' ks costs quantities [] ps))
    ∙ (filter_map_of (take_past at) takes_something (taken_after bs qs ks [] ps) ∙ ap (λ l. map (take_past at) (filter takes_something l)) (sym (all_taken bs qs ks ps)))

pub left_past : (cs : List CommitmentValue) (before after : List Charge) (row : Charge) (hour : ℕ) → IsUntouched cs hour row → (r : ℕ)
    → left_of (before ++ row ∷ after) (hour_cover cs (before ++ row ∷ after) hour) (place_past (length before) r) ≡ left_of (before ++ after) (hour_cover cs (before ++ after) hour) r
unfolding left_of
left_past cs before after row hour none r =
    rw (cover_past cs before after row hour none, row_past (length before) r (hour_cover cs (before ++ after) hour), number_past quantity_of before after row r) refl

pub left_whole : (cs : List CommitmentValue) (before after : List Charge) (row : Charge) (hour : ℕ) → IsUntouched cs hour row → left_of (before ++ row ∷ after) (hour_cover cs (before ++ row ∷ after) hour) (length before) ≡ quantity_of row
unfolding left_of
left_whole cs before after row hour none =
    rw (cover_past cs before after row hour none, row_none (length before) (hour_cover cs (before ++ after) hour), number_of quantity_of before after row) (omega arith)

pub unused_past : (cs : List CommitmentValue) (before after : List Charge) (row : Charge) (hour : ℕ) → IsUntouched cs hour row → (place : ℕ)
    → unused_of cs (hour_cover cs (before ++ row ∷ after) hour) place ≡ unused_of cs (hour_cover cs (before ++ after) hour) place
unfolding unused_of
unused_past cs before after row hour none place =
    rw (cover_past cs before after row hour none, used_past (length before) place (hour_cover cs (before ++ after) hour)) refl

-- the takes of a commitment
pub takes_past : (cs : List CommitmentValue) (before after : List Charge) (row : Charge) (hour : ℕ) → IsUntouched cs hour row → (place : ℕ)
    → takes_of place (hour_cover cs (before ++ row ∷ after) hour) ≡ map (take_past (length before)) (takes_of place (hour_cover cs (before ++ after) hour))
unfolding takes_of
takes_past cs before after row hour none place =
    ap (filter (λ t. t.commitment == place)) (cover_past cs before after row hour none) ∙ filter_map_of (take_past (length before)) (λ t. t.commitment == place) (hour_cover cs (before ++ after) hour)
