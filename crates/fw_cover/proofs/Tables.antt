-- Offers in lists, each in the one of its SKU.
use Rattle.std.proofs.Common.{◌≡◌, ◌≢◌, ◌∙◌, ℕ, ◌+◌, ◌<◌, ◌==◌, Bool, true, ◌&&◌, List, [], ◌∷◌, ◌++◌, length, get_or, set, map, filter, All, refl, ap, arith, append-nil}
use Rattle.std.specs.Cmp.{IsStrictWeakOrder}
use Rattle.std.specs.List.{range_with_len}
use Rattle.std.specs.List.Sorted.{IsSortedBy}
use Rattle.std.specs.Str.{bytes_eq}
use Rattle.std.proofs.lemmas.Bool.{eq-eqb, ne_eqb}
use Rattle.std.proofs.lemmas.Cmp.{nat_list_cmp_total}
use Rattle.std.proofs.lemmas.Slice.Eq.{bytes_eq-Decides}
use Rattle.std.proofs.lemmas.List.{get_or-map, length-map}
use Rattle.std.proofs.lemmas.List.Elements.{All-filter, All-map, filter-append}
use Rattle.std.proofs.lemmas.List.FromFn.{length-map-range_with_len, get_or-map-range_with_len}
use Rattle.std.proofs.lemmas.List.Kept.{IsSortedBy-filter}
use Rattle.std.proofs.lemmas.List.Sorted.{ranks_by}
use Rattle.fw_cover.specs.Offers.{OfferValue, list_for, of_list, offer_before, offered, offered_in, table_of}
use Rattle.fw_cover.proofs.Lists.{filter_both, put_in}
use Rattle.fw_cover.proofs.Sorting.{two_ways}

pub offers_weak : IsStrictWeakOrder offer_before
offers_weak = ranks_by nat_list_cmp_total (λ o. o.sku)

-- ---- one offer more
of_list-own : (n : ℕ) (offers : List OfferValue) (o : OfferValue) (k : ℕ) → list_for n o.sku ≡ k → of_list n (offers ++ o ∷ []) k ≡ of_list n offers k ++ o ∷ []
unfolding of_list
of_list-own n offers o k same = filter-append (λ o. list_for n o.sku == k) offers (o ∷ []) ∙ (rw (eq-eqb (list_for n o.sku) k same) refl)

of_list-other : (n : ℕ) (offers : List OfferValue) (o : OfferValue) (k : ℕ) → list_for n o.sku ≢ k → of_list n (offers ++ o ∷ []) k ≡ of_list n offers k
unfolding of_list
of_list-other n offers o k other = filter-append (λ o. list_for n o.sku == k) offers (o ∷ []) ∙ (rw (ne_eqb (list_for n o.sku) k other) (append-nil (filter (λ o. list_for n o.sku == k) offers)))

pub put_offer : (n : ℕ) (offers : List OfferValue) (o : OfferValue) (old new : List (List OfferValue)) → list_for n o.sku < n → old ≡ table_of n offers → new ≡ set old (list_for n o.sku) (get_or old (list_for n o.sku) [] ++ o ∷ [])
    → new ≡ table_of n (offers ++ o ∷ [])
put_offer n offers o old new within was put = put_in n (list_for n o.sku) (of_list n offers) (of_list n (offers ++ o ∷ [])) o (of_list-own n offers o) (of_list-other n offers o) old new within was put

-- ---- the offers of a SKU are all in its list
same_list : (n : ℕ) (x sku : List ℕ) → ((list_for n x == list_for n sku) && bytes_eq x sku) ≡ bytes_eq x sku
same_list n x sku = two_ways (bytes_eq x sku)
    (λ holds. let same : x ≡ sku = (bytes_eq-Decides x sku).0 holds in
    let listed : (list_for n x == list_for n sku) ≡ true = eq-eqb (list_for n x) (list_for n sku) (ap (list_for n) same) in rw (listed, holds) refl)
    (λ fails. two_ways (list_for n x == list_for n sku) (λ same. rw (same, fails) refl) (λ other. rw (other, fails) refl))

pub offered_table : (n : ℕ) (offers : List OfferValue) (sku : List ℕ) → 0 < n → offered_in sku (table_of n offers) ≡ offered sku offers
unfolding of_list
offered_table n offers sku some =
    let many : length (table_of n offers) ≡ n = length-map-range_with_len (of_list n offers) 0 n in
    let own : get_or (table_of n offers) (list_for n sku) [] ≡ of_list n offers (list_for n sku) = get_or-map-range_with_len (of_list n offers) 0 n (list_for n sku) (list_for n sku) [] (omega (arith, some)) (omega arith) in
    ap (λ m. offered sku (get_or (table_of n offers) (list_for m sku) [])) many ∙ ap (offered sku) own
    ∙ filter_both (λ o. list_for n o.sku == list_for n sku) (λ o. bytes_eq o.sku sku) (λ o. bytes_eq o.sku sku) (λ o. same_list n o.sku sku) offers

-- ---- what holds of all offers
pub all_in_table : (n : ℕ) (P : OfferValue → Type 0) (offers : List OfferValue) → All P offers → All (All P) (table_of n offers)
unfolding of_list
all_in_table n P offers all = All-map (All P) (of_list n offers) (range_with_len 0 n) (λ k d lt. All-filter (λ o. list_for n o.sku == get_or (range_with_len 0 n) k d) P offers all)

-- each list of a table of sorted offers is sorted
pub sorted_table : (n : ℕ) (offers : List OfferValue) → IsSortedBy offer_before offers → All (IsSortedBy offer_before) (table_of n offers)
unfolding of_list
sorted_table n offers sorted = All-map (IsSortedBy offer_before) (of_list n offers) (range_with_len 0 n) (λ k d lt. IsSortedBy-filter offer_before offers_weak (λ o. list_for n o.sku == get_or (range_with_len 0 n) k d) offers sorted)

-- a list is sorted by what a function gives where what it gives is sorted
pub sorted_under : {X Y : Type 0} (f : X → Y) (before : Y → Y → Bool) (xs : List X) → IsSortedBy before (map f xs) → IsSortedBy (λ a b. before (f a) (f b)) xs
sorted_under f before xs sorted = λ k d low lt.
    let next : k + 1 < length xs = lt in
    let far = sorted k (f d) low (omega (arith, next, length-map xs f)) in
    rw (get_or-map f xs (k + 1) d (f d) next, get_or-map f xs k d (f d) (omega (arith, next))) at far

pub sorted_over : {X Y : Type 0} (f : X → Y) (before : Y → Y → Bool) (xs : List X) → IsSortedBy (λ a b. before (f a) (f b)) xs → IsSortedBy before (map f xs)
sorted_over f before [] sorted = λ k d low lt. absurd (omega (arith, lt))
sorted_over f before (x ∷ xs) sorted = λ k d low lt.
    let next : k + 1 < length (x ∷ xs) = omega (arith, lt, length-map (x ∷ xs) f) in
    rw (get_or-map f (x ∷ xs) (k + 1) x d next, get_or-map f (x ∷ xs) k x d (omega (arith, next))) (sorted k x low next)
