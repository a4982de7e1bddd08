-- Pairs in a list for each commitment of an order. The lists one after another, each in the order of its rates, are the pairs in their order.
use Rattle.std.proofs.Common.{◌≡◌, ◌≢◌, ◌∙◌, ℕ, zero, suc, ◌+◌, ◌<◌, ◌==◌, Bool, true, false, not, ◌&&◌, nat_lt, List, [], ◌∷◌, ◌++◌, length, get_or, set, map, filter, cond, All, Option, Some, None, IfSome, subst, unwrap_or, refl, sym, ap, arith, append-nil}
use Rattle.std.specs.List.{filter_map, flat_map}
use Rattle.std.specs.Option.{option_map_or}
use Rattle.std.specs.Ordering.{is_lt, nat_cmp}
use Rattle.std.specs.Str.{bytes_eq}
use Rattle.std.proofs.lemmas.Bool.{eq-eqb, eqb-true, ne_eqb, lt-ltb, le-ltb, ltb-true, ltb-false}
use Rattle.std.proofs.lemmas.Grind.{flat_map-append}
use Rattle.std.proofs.lemmas.List.{map-append}
use Rattle.std.proofs.lemmas.List.Elements.{All-filter, All-head, All-nil, All-tail, filter-append, filter_passes}
use Rattle.std.proofs.lemmas.List.FromFn.{map-range_with_len_more}
use Rattle.fw_charge.specs.Charge.{Charge}
use Rattle.fw_cover.specs.Applies.{fits, is_open}
use Rattle.fw_cover.specs.Offers.{OfferValue, list_for, offered_in, pair_by, pairs_with}
use Rattle.fw_cover.specs.Order.{in_order, has_lower_rate}
use Rattle.fw_cover.specs.Ranked.{RankedPair, by_rank, compare_ranked, of_rank, ranked_before}
use Rattle.fw_cover.specs.declared.pair.Pair.{Pair}
use Rattle.fw_cover.proofs.ByCommitment.{filter_every, filter_none, one_rank, parted, ranked}
use Rattle.fw_cover.proofs.Lists.{all_at, filter_both, put_in}
use Rattle.fw_cover.proofs.Sorting.{two_ways}
use Rattle.fw_cover.proofs.Within.{all_filter_map, all_flat_map}

-- ---- one pair more
of_rank-more : (all : List RankedPair) (q : RankedPair) (rank : ℕ) → of_rank (all ++ q ∷ []) rank ≡ of_rank all rank ++ map (λ q. q.pair) (cond (q.rank == rank) (q ∷ []) [])
unfolding of_rank
of_rank-more all q rank = ap (map (λ q. q.pair)) (filter-append (λ q. q.rank == rank) all (q ∷ [])) ∙ map-append (λ q. q.pair) (filter (λ q. q.rank == rank) all) (filter (λ q. q.rank == rank) (q ∷ []))

-- in the list of its commitment
of_rank-own : (all : List RankedPair) (q : RankedPair) (rank : ℕ) → q.rank ≡ rank → of_rank (all ++ q ∷ []) rank ≡ of_rank all rank ++ q.pair ∷ []
of_rank-own all q rank same = of_rank-more all q rank ∙ (rw (eq-eqb q.rank rank same) refl)

of_rank-other : (all : List RankedPair) (q : RankedPair) (rank : ℕ) → q.rank ≢ rank → of_rank (all ++ q ∷ []) rank ≡ of_rank all rank
of_rank-other all q rank other = of_rank-more all q rank ∙ (rw (ne_eqb q.rank rank other) (append-nil (of_rank all rank)))

pub put_pair : (ranks : ℕ) (all : List RankedPair) (q : RankedPair) (old new : List (List Pair)) → q.rank < ranks → old ≡ by_rank ranks all → new ≡ set old q.rank (get_or old q.rank [] ++ q.pair ∷ [])
    → new ≡ by_rank ranks (all ++ q ∷ [])
put_pair ranks all q old new within was put = put_in ranks q.rank (of_rank all) (of_rank (all ++ q ∷ [])) q.pair (of_rank-own all q) (of_rank-other all q) old new within was put

-- ---- the lists one after another
abbrev is_below : ℕ → RankedPair → Bool
is_below n q = nat_lt q.rank n

-- a lower place goes first, whatever the rates
goes : (n : ℕ) (x y : RankedPair) → is_below n x ≡ true → is_below n y ≡ false → ranked_before x y ≡ true
unfolding compare_ranked
goes n x y hx hy = let less : nat_lt x.rank y.rank ≡ true = lt-ltb x.rank y.rank (omega (arith, ltb-true x.rank n hx, ltb-false y.rank n hy)) in rw less refl

stays : (n : ℕ) (x y : RankedPair) → is_below n x ≡ true → is_below n y ≡ false → ranked_before y x ≡ false
unfolding compare_ranked
stays n x y hx hy = let more : x.rank < y.rank = omega (arith, ltb-true x.rank n hx, ltb-false y.rank n hy) in
    let least : nat_lt y.rank x.rank ≡ false = le-ltb y.rank x.rank (omega (arith, more)) in
    let other : (y.rank == x.rank) ≡ false = ne_eqb y.rank x.rank (λ e. omega (arith, more, e)) in
    rw (least, other) refl

still_below : (n r : ℕ) → (nat_lt r (n + 1) && nat_lt r n) ≡ nat_lt r n
still_below n r = two_ways (nat_lt r n)
    (λ less. let more : nat_lt r (n + 1) ≡ true = lt-ltb r (n + 1) (omega (arith, ltb-true r n less)) in rw (more, less) refl)
    (λ least. two_ways (nat_lt r (n + 1)) (λ more. rw (more, least) refl) (λ over. rw (over, least) refl))

last_below : (n r : ℕ) → (nat_lt r (n + 1) && not (nat_lt r n)) ≡ (r == n)
last_below n r = two_ways (nat_lt r n)
    (λ less. let other : (r == n) ≡ false = ne_eqb r n (λ e. omega (arith, ltb-true r n less, e)) in
    let more : nat_lt r (n + 1) ≡ true = lt-ltb r (n + 1) (omega (arith, ltb-true r n less)) in rw (more, less, other) refl)
    (λ least. two_ways (nat_lt r (n + 1))
    (λ more. let same : (r == n) ≡ true = eq-eqb r n (omega (arith, ltb-false r n least, ltb-true r (n + 1) more)) in rw (more, least, same) refl)
    (λ over. let other : (r == n) ≡ false = ne_eqb r n (λ e. omega (arith, ltb-false r (n + 1) over, e)) in rw (over, other) refl))

ranked_again : (n : ℕ) (qs : List RankedPair) → All (λ q. (q.rank == n) ≡ true) qs → map (ranked n) (map (λ q. q.pair) qs) ≡ qs
ranked_again n [] all = refl
ranked_again n (q ∷ qs) all = let P : RankedPair → Type 0 = λ q. (q.rank == n) ≡ true in
    let here : n ≡ q.rank = sym (eqb-true q.rank n (All-head P q qs all)) in
    ap (λ r. ranked r q.pair ∷ map (ranked n) (map (λ q. q.pair) qs)) here ∙ ap (λ l. q ∷ l) (ranked_again n qs (All-tail P q qs all))

at_rank : (n : ℕ) (all : List RankedPair) → map (λ q. q.pair) (in_order ranked_before (filter (λ q. q.rank == n) all)) ≡ in_order has_lower_rate (of_rank all n)
unfolding of_rank
at_rank n all = let own : List RankedPair = filter (λ q. q.rank == n) all in
    ap (λ l. map (λ q. q.pair) (in_order ranked_before l)) (sym (ranked_again n own (filter_passes (λ q. q.rank == n) all))) ∙ one_rank n (map (λ q. q.pair) own)

-- with the pairs of one commitment more
upto_next : (n : ℕ) (all : List RankedPair) → map (λ q. q.pair) (in_order ranked_before (filter (is_below n) all)) ≡ flat_map (in_order has_lower_rate) (by_rank n all)
    → map (λ q. q.pair) (in_order ranked_before (filter (is_below (n + 1)) all)) ≡ flat_map (in_order has_lower_rate) (by_rank (n + 1) all)
upto_next n all so_far =
    let upto : List RankedPair = filter (is_below (n + 1)) all in
    let e1 : filter (is_below n) upto ≡ filter (is_below n) all = filter_both (is_below (n + 1)) (is_below n) (is_below n) (λ q. still_below n q.rank) all in
    let e2 : filter (λ q. not (is_below n q)) upto ≡ filter (λ q. q.rank == n) all = filter_both (is_below (n + 1)) (λ q. not (is_below n q)) (λ q. q.rank == n) (λ q. last_below n q.rank) all in
    let lists : by_rank (n + 1) all ≡ by_rank n all ++ of_rank all n ∷ [] = map-range_with_len_more (of_rank all) 0 n n (omega arith) in
    let rates : List Pair → List Pair = in_order has_lower_rate in
    let parts : map (λ q. q.pair) (in_order ranked_before upto) ≡ map (λ q. q.pair) (in_order ranked_before (filter (is_below n) upto)) ++ map (λ q. q.pair) (in_order ranked_before (filter (λ q. not (is_below n q)) upto)) =
    ap (map (λ q. q.pair)) (parted ranked_before (is_below n) (goes n) (stays n) upto)
    ∙ map-append (λ q. q.pair) (in_order ranked_before (filter (is_below n) upto)) (in_order ranked_before (filter (λ q. not (is_below n q)) upto)) in
    let each : map (λ q. q.pair) (in_order ranked_before upto) ≡ flat_map rates (by_rank n all) ++ rates (of_rank all n) = rw (← so_far, ← at_rank n all, ← e1, ← e2) parts in
    let joined : flat_map rates (by_rank (n + 1) all) ≡ flat_map rates (by_rank n all) ++ rates (of_rank all n) =
    ap (flat_map rates) lists ∙ (flat_map-append rates (by_rank n all) (of_rank all n ∷ []) ∙ ap (λ l. flat_map rates (by_rank n all) ++ l) (append-nil (rates (of_rank all n)))) in
    each ∙ sym joined

upto_rank : (n : ℕ) (all : List RankedPair) → map (λ q. q.pair) (in_order ranked_before (filter (is_below n) all)) ≡ flat_map (in_order has_lower_rate) (by_rank n all)
upto_rank zero all = ap (λ l. map (λ q. q.pair) (in_order ranked_before l)) (filter_none (is_below 0) all (λ k d lt. le-ltb (get_or all k d).rank 0 (omega arith)))
upto_rank (suc n) all =
    let next : n + 1 ≡ suc n = omega arith in
    subst (λ m. map (λ q. q.pair) (in_order ranked_before (filter (is_below m) all)) ≡ flat_map (in_order has_lower_rate) (by_rank m all)) next (upto_next n all (upto_rank n all))

pub ranks_in_order : (n : ℕ) (all : List RankedPair) → All (λ q. q.rank < n) all → map (λ q. q.pair) (in_order ranked_before all) ≡ flat_map (in_order has_lower_rate) (by_rank n all)
ranks_in_order n all within =
    ap (λ l. map (λ q. q.pair) (in_order ranked_before l)) (sym (filter_every (is_below n) all (λ k d lt. lt-ltb (get_or all k d).rank n (within k d lt)))) ∙ upto_rank n all

-- ---- the pairs by an index
abbrev IsOfRank : ℕ → OfferValue → Type 0
IsOfRank n o = o.standing.0 < n

rank_of_pair : (n hour : ℕ) (row : ℕ × Charge) (o : OfferValue) → IsOfRank n o → (q : RankedPair) → pair_by hour row o ≡ Some q → q.rank < n
rank_of_pair n hour row o is q h = two_ways (fits o.standing.1.1 hour row.1)
    (λ holds. let e : Some (ranked o.standing.0 (record { commitment = o.standing.1.0; row = row.0; rate = o.rate })) ≡ Some q = rw holds at h in subst (λ p. IfSome p (λ q. q.rank < n)) e is)
    (λ fails. absurd (let e : None ≡ Some q = rw fails at h in cc))

ranks_of_row : (n hour : ℕ) (table : List (List OfferValue)) (row : ℕ × Charge) → All (All (IsOfRank n)) table → All (λ q. q.rank < n) (pairs_with hour table row)
unfolding pairs_with
ranks_of_row n hour table row all = two_ways (is_open hour row.1) (λ holds. rw holds (of_sku row.1.sku)) (λ fails. rw fails (All-nil (λ q. q.rank < n)))
  where
    of_sku : (sku : Option (List ℕ)) → All (λ q. q.rank < n) (option_map_or (λ sku. filter_map (pair_by hour row) (offered_in sku table)) sku [])
    of_sku None = All-nil (λ q. q.rank < n)
    of_sku (Some sku) = all_filter_map (λ q. q.rank < n) (pair_by hour row) (offered_in sku table)
        (λ k d lt q h. rank_of_pair n hour row (get_or (offered_in sku table) k d)
        (All-filter (λ o. bytes_eq o.sku sku) (IsOfRank n) (get_or table (list_for (length table) sku) []) (all_at (IsOfRank n) table (list_for (length table) sku) all) k d lt) q h)

pub ranks_within : (n hour : ℕ) (table : List (List OfferValue)) (rows : List (ℕ × Charge)) → All (All (λ o. o.standing.0 < n)) table → All (λ q. q.rank < n) (flat_map (pairs_with hour table) rows)
ranks_within n hour table rows all = all_flat_map (λ q. q.rank < n) (pairs_with hour table) rows (λ k d lt. ranks_of_row n hour table (get_or rows k d) all)

-- a lower rate goes first
pub rate_before : (λ (p q : Pair). is_lt (nat_cmp (unwrap_or p.rate 0) (unwrap_or q.rate 0))) ≡ has_lower_rate
rate_before = λ i p q. lower (unwrap_or p.rate 0) (unwrap_or q.rate 0) i
  where
    lower : (a b : ℕ) → is_lt (nat_cmp a b) ≡ nat_lt a b
    lower a b = two_ways (nat_lt a b) (λ less. rw less refl) (λ least. two_ways (a == b) (λ same. rw (least, same) refl) (λ other. rw (least, other) refl))
