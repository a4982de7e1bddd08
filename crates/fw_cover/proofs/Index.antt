-- The offers of a row's SKU make the row's pairs.
use Rattle.std.proofs.Common.{◌≡◌, ℕ, zero, suc, ◌+◌, ◌-◌, ◌<◌, ◌≤◌, Bool, true, false, not, ◌&&◌, cond, List, [], ◌∷◌, ◌++◌, length, get_or, take, drop, map, filter, find, All, Option, Some, None, option_map, refl, sym, ap, ◌∙◌, arith, ltb, ⊎_elim}
use Rattle.std.proofs.lemmas.Bool.{cases_lt}
use Rattle.std.proofs.lemmas.List.{get_or-drop, length-drop}
use Rattle.std.proofs.lemmas.List.Sums.{prefix_len_passes, prefix_len_stops}
use Rattle.std.specs.List.{enumerate_from, filter_map, flat_map, cons_option, prefix_len, AllByRecursion}
use Rattle.std.specs.Option.{option_map_or}
use Rattle.std.specs.List.Sorted.{IsStrictlySortedBy, ties, IsSortedBy, IsNonDecreasingBy, IsPartitionedBy, IsPartitionPoint}
use Rattle.std.specs.Cmp.{IsStrictWeakOrder}
use Rattle.std.specs.declared.cmp.Ordering.{Ordering}
use Rattle.std.specs.declared.cmp.Ordering.TheVariants.{Less, Equal, Greater}
use Rattle.std.specs.Ordering.{is_lt, is_le, is_eq, nat_cmp, ordering_reverse, ordering_index}
use Rattle.std.specs.Cmp.Lexicographic.{slice_cmp}
use Rattle.std.specs.Str.{bytes_eq}
use Rattle.std.proofs.lemmas.Cmp.{nat_list_cmp_total, nat_list_eq_equiv}
use Rattle.std.proofs.lemmas.Map.Text.{is_eq-slice_cmp}
use Rattle.std.proofs.lemmas.Slice.Eq.{bytes_eq-Decides}
use Rattle.std.proofs.lemmas.Option.{get_or_from_slice_get}
use Rattle.std.specs.Prelude.{slice_get}
use Rattle.std.proofs.lemmas.List.Sorted.{ranks_by, sorted_far, searchable_from_sorted, IsPartitionedBy-ltb}
use Rattle.std.proofs.lemmas.List.Elements.{filter-append, filter_map-append, filter_agree, All-head, All-map, All-tail}
use Rattle.fw_charge.specs.Charge.{Charge}
use Rattle.fw_terms.specs.Commitment.{CommitmentValue, TermsValue, RateValue, IsCommitment, IsTerms}
use Rattle.fw_terms.specs.Commitment.TermsValue.{usage, spend}
use Rattle.fw_cover.specs.Applies.{Listing, listings, fits, applied, is_open}
use Rattle.fw_cover.specs.Order.{in_order, pair_for}
use Rattle.fw_cover.specs.Offers.{OfferValue, offer_for, offers_by, offers_of, offer_before, index_of, offered, offered_in, pair_by, pairs_with, row_offers, offer_of, standing_to, table_of}
use Rattle.fw_cover.specs.declared.offers.Offer.{Offer}
use Rattle.fw_cover.specs.declared.pair.Pair.{Pair}
use Rattle.fw_cover.proofs.Sorting.{two_ways, in_order_stable}
use Rattle.fw_cover.specs.Ranked.{RankedPair}
use Rattle.fw_cover.proofs.ByCommitment.{ranked, ranked_for, ranked_at, filter_every, filter_none}
use Rattle.fw_cover.proofs.Listing.{no_pairs}
use Rattle.fw_cover.proofs.Tables.{offered_table, offers_weak}

-- ---- a SKU stands once among rising ones
later_other : (x y sku : List ℕ) → bytes_eq x sku ≡ true → slice_cmp nat_cmp x y ≡ Less → bytes_eq y sku ≡ false
later_other x y sku same less =
    nat_list_eq_equiv.symm y sku ∙ (sym (nat_list_eq_equiv.congr x sku y same) ∙ (sym (is_eq-slice_cmp x y) ∙ ap is_eq less))

none_later : (x sku : List ℕ) (ls : List Listing) → bytes_eq x sku ≡ true → AllByRecursion (λ y. slice_cmp nat_cmp x y ≡ Less) (map (λ l. l.sku) ls) → filter (λ l. bytes_eq l.sku sku) ls ≡ []
none_later x sku [] same all = refl
none_later x sku (l ∷ ls) same all = rw (later_other x l.sku sku same all.0) (none_later x sku ls same all.1)

filter_once : (sku : List ℕ) (ls : List Listing) → IsStrictlySortedBy (slice_cmp nat_cmp) (map (λ l. l.sku) ls) → filter (λ l. bytes_eq l.sku sku) ls ≡ cons_option (find (λ l. bytes_eq l.sku sku) ls) []
unfolding IsStrictlySortedBy
filter_once sku [] rising = refl
filter_once sku (l ∷ ls) rising = two_ways (bytes_eq l.sku sku)
    (λ same. rw same (ap (λ r. l ∷ r) (none_later l.sku sku ls same rising.0)))
    (λ other. rw other (filter_once sku ls rising.1))

skus_listed : (skus : List (List ℕ)) → map (λ l. l.sku) (map (λ sku. let l : Listing = record { sku = sku; rate = None } in l) skus) ≡ skus
skus_listed [] = refl
skus_listed (s ∷ skus) = ap (λ r. s ∷ r) (skus_listed skus)

rates_listed : (rates : List RateValue) → map (λ l. l.sku) (map (λ r. let l : Listing = record { sku = r.sku; rate = Some r.ppm } in l) rates) ≡ map (λ r. r.sku) rates
rates_listed [] = refl
rates_listed (r ∷ rates) = ap (λ l. r.sku ∷ l) (rates_listed rates)

rising_listings : (terms : TermsValue) → IsTerms terms → IsStrictlySortedBy (slice_cmp nat_cmp) (map (λ l. l.sku) (listings terms))
rising_listings (usage unit skus) is = rw (skus_listed skus) is.1.rising
rising_listings (spend rates) is = rw (rates_listed rates) is.rising

-- ---- the offers of one commitment
pub filter_map_of : {X Y : Type 0} (f : X → Y) (p : Y → Bool) (xs : List X) → filter p (map f xs) ≡ map f (filter (λ x. p (f x)) xs)
filter_map_of f p [] = refl
filter_map_of f p (x ∷ xs) = two_ways (p (f x)) (λ holds. rw holds (ap (λ l. f x ∷ l) (filter_map_of f p xs))) (λ fails. rw fails (filter_map_of f p xs))

-- the pair of a commitment and a row, where terms have a rate for the row
abbrev pair_at : ℕ × Charge → ℕ × CommitmentValue → Option ℕ → Pair
pair_at row c rate = record { commitment = c.0; row = row.0; rate = rate }

one_offer : (hour : ℕ) (row : ℕ × Charge) (c : ℕ × (ℕ × CommitmentValue)) (o : Option Listing)
    → filter_map (pair_by hour row) (map (offer_for c) (cons_option o [])) ≡ cons_option (option_map (ranked c.0) (option_map (pair_at row c.1) (cond (fits c.1.1 hour row.1) (option_map (λ l. l.rate) o) None))) []
one_offer hour row c None = two_ways (fits c.1.1 hour row.1) (λ holds. rw holds refl) (λ fails. rw fails refl)
one_offer hour row c (Some l) = two_ways (fits c.1.1 hour row.1) (λ holds. rw holds refl) (λ fails. rw fails refl)

offers_pair : (hour : ℕ) (row : ℕ × Charge) (sku : List ℕ) (c : ℕ × (ℕ × CommitmentValue)) → is_open hour row.1 ≡ true → row.1.sku ≡ Some sku → IsCommitment c.1.1
    → filter_map (pair_by hour row) (offered sku (offers_by c)) ≡ cons_option (ranked_for hour row c) []
unfolding pair_for applied
offers_pair hour row sku c open_row has is =
    let once : offered sku (offers_by c) ≡ map (offer_for c) (cons_option (find (λ l. bytes_eq l.sku sku) (listings c.1.1.terms)) []) =
    filter_map_of (offer_for c) (λ o. bytes_eq o.sku sku) (listings c.1.1.terms) ∙ ap (map (offer_for c)) (filter_once sku (listings c.1.1.terms) (rising_listings c.1.1.terms is.terms)) in
    ap (filter_map (pair_by hour row)) once ∙ (one_offer hour row c (find (λ l. bytes_eq l.sku sku) (listings c.1.1.terms)) ∙ (rw (open_row, has) refl))

cons_append : {X : Type 0} (o : Option X) (xs : List X) → cons_option o [] ++ xs ≡ cons_option o xs
cons_append None xs = refl
cons_append (Some x) xs = refl

-- ---- the offers of all
offers_pairs : (hour : ℕ) (row : ℕ × Charge) (sku : List ℕ) (cs : List (ℕ × (ℕ × CommitmentValue))) → is_open hour row.1 ≡ true → row.1.sku ≡ Some sku → All (λ c. IsCommitment c.1.1) cs
    → filter_map (pair_by hour row) (offered sku (flat_map offers_by cs)) ≡ filter_map (ranked_for hour row) cs
offers_pairs hour row sku [] open_row has all = refl
offers_pairs hour row sku (c ∷ cs) open_row has all = let P : ℕ × (ℕ × CommitmentValue) → Type 0 = λ c. IsCommitment c.1.1 in
    ap (filter_map (pair_by hour row)) (filter-append (λ o. bytes_eq o.sku sku) (offers_by c) (flat_map offers_by cs))
    ∙ (filter_map-append (pair_by hour row) (offered sku (offers_by c)) (offered sku (flat_map offers_by cs))
    ∙ (rw (offers_pair hour row sku c open_row has (All-head P c cs all), offers_pairs hour row sku cs open_row has (All-tail P c cs all)) (cons_append (ranked_for hour row c) (filter_map (ranked_for hour row) cs))))

-- ---- the index has the offers of a SKU in the order of their commitments
tie_of : (o : Ordering) → (not (is_lt (ordering_reverse o)) && not (is_lt o)) ≡ is_eq o
tie_of Less = refl
tie_of Equal = refl
tie_of Greater = refl

tie_is : (a b : List ℕ) → (not (is_lt (slice_cmp nat_cmp a b)) && not (is_lt (slice_cmp nat_cmp b a))) ≡ bytes_eq b a
tie_is a b = rw (nat_list_cmp_total.antisymm a b) (tie_of (slice_cmp nat_cmp b a) ∙ is_eq-slice_cmp b a)

pub offered_in_order : (sku : List ℕ) (offers : List OfferValue) → offered sku (in_order offer_before offers) ≡ offered sku offers
offered_in_order sku [] = refl
offered_in_order sku (o ∷ offers) = let probe : OfferValue = record o { sku = sku } in
    let agree = λ (x : OfferValue). tie_is sku x.sku in
    sym (filter_agree (ties offer_before probe) (λ x. bytes_eq x.sku sku) agree (in_order offer_before (o ∷ offers)))
    ∙ (in_order_stable offer_before offers_weak probe (o ∷ offers) ∙ filter_agree (ties offer_before probe) (λ x. bytes_eq x.sku sku) agree (o ∷ offers))

-- a row without a SKU has no pairs
without : (hour : ℕ) (row : ℕ × Charge) (cs : List (ℕ × (ℕ × CommitmentValue))) → row.1.sku ≡ None → filter_map (ranked_for hour row) cs ≡ []
unfolding pair_for applied
without hour row [] has = refl
without hour row (c ∷ cs) has = two_ways (is_open hour row.1 && fits c.1.1 hour row.1) (λ holds. rw (holds, has) (without hour row cs has)) (λ fails. rw fails (without hour row cs has))

-- ---- the pairs of a row by a table
pub with_none : (hour : ℕ) (table : List (List OfferValue)) (row : ℕ × Charge) → is_open hour row.1 ≡ false → pairs_with hour table row ≡ []
unfolding pairs_with
with_none hour table row closed = rw closed refl

with_sku : (hour : ℕ) (table : List (List OfferValue)) (row : ℕ × Charge) (sku : Option (List ℕ)) → is_open hour row.1 ≡ true → row.1.sku ≡ sku
    → pairs_with hour table row ≡ option_map_or (λ sku. filter_map (pair_by hour row) (offered_in sku table)) sku []
unfolding pairs_with
with_sku hour table row sku open_row has = let F : List ℕ → List RankedPair = λ sku. filter_map (pair_by hour row) (offered_in sku table) in
    let e : pairs_with hour table row ≡ option_map_or F row.1.sku [] = rw open_row refl in
    e ∙ ap (λ s. option_map_or F s []) has

with_some : (hour : ℕ) (table : List (List OfferValue)) (row : ℕ × Charge) (sku : List ℕ) → is_open hour row.1 ≡ true → row.1.sku ≡ Some sku → pairs_with hour table row ≡ filter_map (pair_by hour row) (offered_in sku table)
with_some hour table row sku open_row has = with_sku hour table row (Some sku) open_row has

with_no_sku : (hour : ℕ) (table : List (List OfferValue)) (row : ℕ × Charge) → is_open hour row.1 ≡ true → row.1.sku ≡ None → pairs_with hour table row ≡ []
with_no_sku hour table row open_row has = with_sku hour table row None open_row has

moved : (hour : ℕ) (table : List (List OfferValue)) (row : ℕ × Charge) (sku : Option (List ℕ))
    → option_map_or (λ sku. filter_map (pair_by hour row) (offered_in sku table)) sku [] ≡ filter_map (pair_by hour row) (option_map_or (λ sku. offered_in sku table) sku [])
moved hour table row None = refl
moved hour table row (Some sku) = refl

-- a row that commitments may cover has those that the offers of its SKU make with it
pub with_offers : (hour : ℕ) (table : List (List OfferValue)) (row : ℕ × Charge) → is_open hour row.1 ≡ true → pairs_with hour table row ≡ filter_map (pair_by hour row) (row_offers table row.1)
with_offers hour table row open_row = with_sku hour table row row.1.sku open_row refl ∙ moved hour table row row.1.sku

-- they are its pairs
by_sku : (n hour : ℕ) (row : ℕ × Charge) (cs : List (ℕ × CommitmentValue)) (sku : Option (List ℕ)) → 0 < n → row.1.sku ≡ sku → is_open hour row.1 ≡ true → All (λ c. IsCommitment c.1.1) (enumerate_from 0 cs)
    → pairs_with hour (table_of n (index_of cs)) row ≡ ranked_at hour 0 cs row
unfolding index_of
by_sku n hour row cs None some has open_row all = with_no_sku hour (table_of n (index_of cs)) row open_row has ∙ sym (without hour row (enumerate_from 0 cs) has)
by_sku n hour row cs (Some sku) some has open_row all = with_some hour (table_of n (index_of cs)) row sku open_row has
    ∙ (ap (filter_map (pair_by hour row)) (offered_table n (index_of cs) sku some ∙ offered_in_order sku (offers_of cs)) ∙ offers_pairs hour row sku (enumerate_from 0 cs) open_row has all)

pub pairs_by_table : (n hour : ℕ) (row : ℕ × Charge) (cs : List (ℕ × CommitmentValue)) → 0 < n → All (λ c. IsCommitment c.1.1) (enumerate_from 0 cs) → pairs_with hour (table_of n (index_of cs)) row ≡ ranked_at hour 0 cs row
pairs_by_table n hour row cs some all = two_ways (is_open hour row.1)
    (λ holds. by_sku n hour row cs row.1.sku some refl holds all)
    (λ fails. with_none hour (table_of n (index_of cs)) row fails ∙ sym (no_pairs hour 0 row cs fails))

pub pairs_by_row_table : (n hour : ℕ) (rows : List (ℕ × Charge)) (cs : List (ℕ × CommitmentValue)) → 0 < n → All (λ c. IsCommitment c.1.1) (enumerate_from 0 cs)
    → flat_map (pairs_with hour (table_of n (index_of cs))) rows ≡ flat_map (ranked_at hour 0 cs) rows
pairs_by_row_table n hour [] cs some all = refl
pairs_by_row_table n hour (r ∷ rows) cs some all = rw (pairs_by_table n hour r cs some all, pairs_by_row_table n hour rows cs some all) refl

-- ---- what a commitment offers
map_map : {X Y Z : Type 0} (f : X → Y) (g : Y → Z) (xs : List X) → map g (map f xs) ≡ map (λ x. g (f x)) xs
map_map f g [] = refl
map_map f g (x ∷ xs) = ap (λ l. g (f x) ∷ l) (map_map f g xs)

pub usage_offers : {T : Type 0} (text : T → List ℕ) (c : ℕ × (ℕ × CommitmentValue)) (unit : List ℕ) (skus : List T) → c.1.1.terms ≡ usage unit (map text skus)
    → offers_by c ≡ map (λ s. offer_for c (record { sku = text s; rate = None })) skus
usage_offers text c unit skus e = ap (λ t. map (offer_for c) (listings t)) e
    ∙ (map_map (λ sku. record { sku = sku; rate = None }) (offer_for c) (map text skus) ∙ map_map text (λ sku. offer_for c (record { sku = sku; rate = None })) skus)

pub spend_offers : (c : ℕ × (ℕ × CommitmentValue)) (rates : List RateValue) → c.1.1.terms ≡ spend rates → offers_by c ≡ map (λ r. offer_for c (record { sku = r.sku; rate = Some r.ppm })) rates
spend_offers c rates e = ap (λ t. map (offer_for c) (listings t)) e ∙ map_map (λ r. record { sku = r.sku; rate = Some r.ppm }) (offer_for c) rates

-- ---- the part of a list between two points
-- p holds of the first i elements, q of those and the next n, and e of what p doesn't hold of and q does
mid_filter : {X : Type 0} (p q e : X → Bool) → ((x : X) → p x ≡ true → e x ≡ false) → ((x : X) → q x ≡ false → e x ≡ false) → ((x : X) → p x ≡ false → q x ≡ true → e x ≡ true)
    → (xs : List X) (i n : ℕ) → ((k : ℕ) (d : X) → k < i → k < length xs → p (get_or xs k d) ≡ true) → ((k : ℕ) (d : X) → i ≤ k → k < length xs → p (get_or xs k d) ≡ false)
    → ((k : ℕ) (d : X) → k < i + n → k < length xs → q (get_or xs k d) ≡ true) → ((k : ℕ) (d : X) → i + n ≤ k → k < length xs → q (get_or xs k d) ≡ false)
    → take n (drop i xs) ≡ filter e xs
mid_filter p q e below above among [] zero zero a b c d = refl
mid_filter p q e below above among [] zero (suc n) a b c d = refl
mid_filter p q e below above among [] (suc i) zero a b c d = refl
mid_filter p q e below above among [] (suc i) (suc n) a b c d = refl
mid_filter p q e below above among (x ∷ xs) zero zero a b c d =
    sym (filter_none e (x ∷ xs) (λ k o lt. above (get_or (x ∷ xs) k o) (d k o (omega arith) lt)))
mid_filter p q e below above among (x ∷ xs) zero (suc n) a b c d =
    let here : e x ≡ true = among x (b 0 x (omega arith) (omega arith)) (c 0 x (omega arith) (omega arith)) in
    rw here (ap (λ l. x ∷ l) (mid_filter p q e below above among xs zero n
    (λ k o lt l. absurd (omega (arith, lt)))
    (λ k o le l. b (suc k) o (omega arith) (omega (arith, l)))
    (λ k o lt l. c (suc k) o (omega (arith, lt)) (omega (arith, l)))
    (λ k o le l. d (suc k) o (omega (arith, le)) (omega (arith, l)))))
mid_filter p q e below above among (x ∷ xs) (suc i) n a b c d =
    let here : e x ≡ false = below x (a 0 x (omega arith) (omega arith)) in
    rw here (mid_filter p q e below above among xs i n
    (λ k o lt l. a (suc k) o (omega (arith, lt)) (omega (arith, l)))
    (λ k o le l. b (suc k) o (omega (arith, le)) (omega (arith, l)))
    (λ k o lt l. c (suc k) o (omega (arith, lt)) (omega (arith, l)))
    (λ k o le l. d (suc k) o (omega (arith, le)) (omega (arith, l))))

-- ---- the offers of a SKU in an index
lt_number : (o : Ordering) → is_lt o ≡ ltb (ordering_index o) 1
lt_number Less = refl
lt_number Equal = refl
lt_number Greater = refl

le_number : (o : Ordering) → is_le o ≡ ltb (ordering_index o) 2
le_number Less = refl
le_number Equal = refl
le_number Greater = refl

lt_apart : (o : Ordering) → is_lt o ≡ true → is_eq o ≡ false
lt_apart Less h = refl
lt_apart Equal h = sym h
lt_apart Greater h = refl

gt_apart : (o : Ordering) → is_le o ≡ false → is_eq o ≡ false
gt_apart Less h = refl
gt_apart Equal h = h
gt_apart Greater h = refl

between : (o : Ordering) → is_lt o ≡ false → is_le o ≡ true → is_eq o ≡ true
between Less h i = sym h
between Equal h i = refl
between Greater h i = i

lt_is_le : (o : Ordering) → is_lt o ≡ true → is_le o ≡ true
lt_is_le Less h = refl
lt_is_le Equal h = refl
lt_is_le Greater h = h

eq_is_le : (o : Ordering) → is_eq o ≡ true → is_le o ≡ true
eq_is_le Less h = refl
eq_is_le Equal h = refl
eq_is_le Greater h = h

neither_le : (o : Ordering) → is_lt o ≡ false → is_eq o ≡ false → is_le o ≡ false
neither_le Less h i = h
neither_le Equal h i = i
neither_le Greater h i = refl

rising_to : (sku : List ℕ) (xs : List Offer) → IsSortedBy (λ a b. offer_before (offer_of a) (offer_of b)) xs → IsNonDecreasingBy (λ o. ordering_index (standing_to sku o)) xs
rising_to sku xs sorted = searchable_from_sorted nat_list_cmp_total (λ o. o.sku.now) xs sku sorted

pub parted_below : (sku : List ℕ) (xs : List Offer) → IsSortedBy (λ a b. offer_before (offer_of a) (offer_of b)) xs → IsPartitionedBy (λ o. is_lt (standing_to sku o)) xs
parted_below sku xs sorted = λ i j d le lt h.
    lt_number (standing_to sku (get_or xs i d)) ∙ IsPartitionedBy-ltb (λ o. ordering_index (standing_to sku o)) xs 1 (rising_to sku xs sorted) i j d le lt (sym (lt_number (standing_to sku (get_or xs j d))) ∙ h)

parted_upto : (sku : List ℕ) (xs : List Offer) → IsSortedBy (λ a b. offer_before (offer_of a) (offer_of b)) xs → IsPartitionedBy (λ o. is_le (standing_to sku o)) xs
parted_upto sku xs sorted = λ i j d le lt h.
    le_number (standing_to sku (get_or xs i d)) ∙ IsPartitionedBy-ltb (λ o. ordering_index (standing_to sku o)) xs 2 (rising_to sku xs sorted) i j d le lt (sym (le_number (standing_to sku (get_or xs j d))) ∙ h)

-- from the first offer of a SKU on the next ones are those of the same SKU, and all others are of higher ones
run_upto : (sku : List ℕ) (xs : List Offer) (from n : ℕ) → IsSortedBy (λ a b. offer_before (offer_of a) (offer_of b)) xs → IsPartitionPoint (λ o. is_lt (standing_to sku o) ≡ true) (λ o. is_lt (standing_to sku o) ≡ false) xs from
    → n ≡ prefix_len (λ o. bytes_eq o.sku.now sku) (drop from xs) → IsPartitionPoint (λ o. is_le (standing_to sku o) ≡ true) (λ o. is_le (standing_to sku o) ≡ false) xs (from + n)
run_upto sku xs from n sorted below run =
    let e : Offer → Bool = λ o. bytes_eq o.sku.now sku in (
      (λ k d z lt. ⊎_elim
          (λ early. lt_is_le (standing_to sku (get_or xs k d)) (below.0 k d z early))
          (λ late.
          let here : e (get_or (drop from xs) (k - from) d) ≡ true = prefix_len_passes e (drop from xs) (k - from) d (omega (arith, lt, late, run)) in
          let k' : from + (k - from) ≡ k = omega (arith, late) in
          let at : get_or (drop from xs) (k - from) d ≡ get_or xs k d = get_or-drop from xs (k - from) d ∙ ap (λ m. get_or xs m d) k' in
          eq_is_le (standing_to sku (get_or xs k d)) (is_eq-slice_cmp (get_or xs k d).sku.now sku ∙ (ap e (sym at) ∙ here)))
          (cases_lt k from)),
      (λ k d le lt. two_ways (is_le (standing_to sku (get_or xs k d)))
          (λ holds.
          let short : prefix_len e (drop from xs) < length (drop from xs) = omega (arith, le, lt, run, length-drop from xs) in
          let at : get_or (drop from xs) (prefix_len e (drop from xs)) d ≡ get_or xs (from + n) d = get_or-drop from xs (prefix_len e (drop from xs)) d ∙ ap (λ m. get_or xs (from + m) d) (sym run) in
          let other : e (get_or xs (from + n) d) ≡ false = ap e (sym at) ∙ prefix_len_stops e (drop from xs) d short in
          let stop : is_le (standing_to sku (get_or xs (from + n) d)) ≡ false =
          neither_le (standing_to sku (get_or xs (from + n) d)) (below.1 (from + n) d (omega arith) (omega (arith, le, lt))) (is_eq-slice_cmp (get_or xs (from + n) d).sku.now sku ∙ other) in
          holds ∙ (sym (parted_upto sku xs sorted (from + n) k d le lt holds) ∙ stop))
          (λ fails. fails)),
    )

pub offers_run : (sku : List ℕ) (xs : List Offer) (from n : ℕ) → IsSortedBy (λ a b. offer_before (offer_of a) (offer_of b)) xs → IsPartitionPoint (λ o. is_lt (standing_to sku o) ≡ true) (λ o. is_lt (standing_to sku o) ≡ false) xs from
    → n ≡ prefix_len (λ o. bytes_eq o.sku.now sku) (drop from xs) → map offer_of (take n (drop from xs)) ≡ offered sku (map offer_of xs)
offers_run sku xs from n sorted below run =
    let e : Offer → Bool = λ o. bytes_eq o.sku.now sku in
    let same = λ (o : Offer). is_eq-slice_cmp o.sku.now sku in
    let upto = run_upto sku xs from n sorted below run in
    let mid : take n (drop from xs) ≡ filter e xs = mid_filter (λ o. is_lt (standing_to sku o)) (λ o. is_le (standing_to sku o)) e
    (λ o t. sym (same o) ∙ lt_apart (standing_to sku o) t) (λ o t. sym (same o) ∙ gt_apart (standing_to sku o) t) (λ o t u. sym (same o) ∙ between (standing_to sku o) t u)
    xs from n
    (λ k d lt l. below.0 k d (omega arith) lt)
    (λ k d le l. below.1 k d le l)
    (λ k d lt l. upto.0 k d (omega arith) lt)
    (λ k d le l. upto.1 k d le l) in
    ap (map offer_of) mid ∙ sym (filter_map_of offer_of (λ o. bytes_eq o.sku sku) xs)

-- ---- a sorted list whose first and last offers are of one SKU
-- has offers of this SKU alone
pub one_sku : (sku : List ℕ) (xs : List Offer) (a b : Offer) → IsSortedBy (λ a b. offer_before (offer_of a) (offer_of b)) xs → slice_get xs 0 ≡ Some a → slice_get xs (length xs - 1) ≡ Some b
    → bytes_eq a.sku.now sku ≡ true → bytes_eq b.sku.now sku ≡ true → map offer_of xs ≡ offered sku (map offer_of xs)
one_sku sku xs a b sorted first last first_is last_is =
    let before : Offer → Offer → Bool = λ a b. offer_before (offer_of a) (offer_of b) in
    let weak : IsStrictWeakOrder before = ranks_by nat_list_cmp_total (λ o. o.sku.now) in
    let from : a.sku.now ≡ sku = (bytes_eq-Decides a.sku.now sku).0 first_is in
    let upto : b.sku.now ≡ sku = (bytes_eq-Decides b.sku.now sku).0 last_is in
    sym (filter_every (λ o. bytes_eq o.sku sku) (map offer_of xs) (All-map (λ o. bytes_eq o.sku sku ≡ true) offer_of xs
    (λ k e lt.
    let low : before (get_or xs k e) a ≡ false = rw (get_or_from_slice_get xs 0 a e first) at (sorted_far before weak xs sorted 0 k e (omega arith) lt) in
    let high : before b (get_or xs k e) ≡ false = rw (get_or_from_slice_get xs (length xs - 1) b e last) at (sorted_far before weak xs sorted k (length xs - 1) e (omega (arith, lt)) (omega (arith, lt))) in
    let not_below : is_lt (slice_cmp nat_cmp (get_or xs k e).sku.now sku) ≡ false = rw (← from) low in
    let not_above : is_lt (slice_cmp nat_cmp sku (get_or xs k e).sku.now) ≡ false = rw (← upto) high in
    sym (tie_is sku (get_or xs k e).sku.now) ∙ (rw (not_above, not_below) refl))))
