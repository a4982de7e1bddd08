-- What a roster gives for its hours: the commitments that it leaves out don't run in them, so they have no pairs and take nothing.
use Rattle.std.proofs.Common.{◌≡◌, ◌∙◌, ℕ, ◌+◌, ◌==◌, Bool, true, false, cond, nat_lt, nat_le, List, [], ◌∷◌, ◌++◌, All, None, Option, Some, filter, get_or, length, map, slice_get, ap, refl, sym, arith, ◌<◌, Vec}
use Rattle.std.specs.declared.alloc.Global.{Global}
use Rattle.std.specs.List.{enumerate_from, filter_map, flat_map}
use Rattle.std.specs.Option.{option_map_or}
use Rattle.std.specs.Str.{bytes_eq}
use Rattle.std.proofs.lemmas.Bool.{lt-ltb, ltb-true, leb-true}
use Rattle.std.proofs.lemmas.List.Elements.{All-filter, All-map, All-nil}
use Rattle.std.proofs.lemmas.List.{length-map}
use Rattle.fw_charge.specs.Charge.{Charge}
use Rattle.fw_terms.specs.Commitment.{CommitmentValue, IsCommitment}
use Rattle.fw_cover.specs.Applies.{applied, fits, is_in_term, is_open, listings}
use Rattle.fw_cover.specs.Hour.{hour_cover, takes_of}
use Rattle.fw_cover.specs.Offers.{OfferValue, index_of, list_for, offer_before, offer_for, offered_in, offers_by, offers_of, pairs_with, row_offers, table_view}
use Rattle.fw_cover.specs.Order.{commitments_in_order, has_lower_rate, in_order, pair_for, pairs_of, pairs_of_commitment}
use Rattle.fw_cover.specs.Ranked.{ranked_before}
use Rattle.fw_cover.specs.RosterView.{HasHour, IsRoster, RosterValue, offers_in, offers_of_row, roster_order, runs_between}
use Rattle.fw_cover.specs.declared.offers.Offer.{Offer}
use Rattle.fw_cover.specs.declared.pair.Pair.{Pair}
use Rattle.fw_cover.proofs.ByCommitment.{pairs_in_turn}
use Rattle.fw_cover.proofs.Grouping.{PlacesApart, grouped_by, order_places_apart}
use Rattle.fw_cover.proofs.Index.{pairs_by_row_table}
use Rattle.fw_cover.proofs.Lists.{all_at}
use Rattle.fw_cover.proofs.Tables.{all_in_table, offered_table}
use Rattle.fw_cover.proofs.Sorting.{two_ways}
use Rattle.fw_cover.proofs.Within.{all_enumerate, all_flat_map, all_in_order, commitments_in_order_places, ordered_valid}

-- ---- lists without some of their elements
-- where these have nothing to give
flat_filter : {X Y : Type 0} (p : X → Bool) (f : X → List Y) → ((x : X) → p x ≡ false → f x ≡ []) → (xs : List X) → flat_map f (filter p xs) ≡ flat_map f xs
flat_filter p f nothing [] = refl
flat_filter p f nothing (x ∷ xs) = two_ways (p x)
    (λ holds. rw holds (ap (λ l. f x ++ l) (flat_filter p f nothing xs)))
    (λ fails. rw (fails, nothing x fails) (flat_filter p f nothing xs))

-- where a second test takes none of these
filter_twice : {X : Type 0} (p q : X → Bool) → ((x : X) → p x ≡ false → q x ≡ false) → (xs : List X) → filter q (filter p xs) ≡ filter q xs
filter_twice p q fewer [] = refl
filter_twice p q fewer (x ∷ xs) = two_ways (p x)
    (λ holds. rw holds (ap (λ l. cond (q x) (x ∷ l) l) (filter_twice p q fewer xs)))
    (λ fails. rw (fails, fewer x fails) (filter_twice p q fewer xs))

-- and the places of those that are left stay apart
pub filter_apart : (p : ℕ × CommitmentValue → Bool) (xs : List (ℕ × CommitmentValue)) → PlacesApart xs → PlacesApart (filter p xs)
filter_apart p [] apart = tt
filter_apart p (x ∷ xs) apart = two_ways (p x)
    (λ holds. rw holds (All-filter p (λ y. (y.0 == x.0) ≡ false) xs apart.0, filter_apart p xs apart.1))
    (λ fails. rw fails (filter_apart p xs apart.1))

-- ---- a commitment that runs in none of the hours
-- its term has none of them
pub not_in_term : (r : RosterValue) (hour : ℕ) (c : CommitmentValue) → HasHour r hour → runs_between r.from r.to c ≡ false → is_in_term c hour ≡ false
unfolding runs_between is_in_term
not_in_term r hour c has out = two_ways (nat_le c.start hour)
    (λ since. two_ways (nat_lt hour (c.start + c.hours))
    (λ until.
    let begins : nat_lt c.start r.to ≡ true = lt-ltb c.start r.to (omega (arith, leb-true c.start hour since, has.until)) in
    let lasts : nat_lt r.from (c.start + c.hours) ≡ true = lt-ltb r.from (c.start + c.hours) (omega (arith, ltb-true hour (c.start + c.hours) until, has.since)) in
    absurd (let e : true ≡ false = rw (begins, lasts) at out in cc))
    (λ over. rw (since, over) refl))
    (λ before. rw before refl)

-- it applies to no row
pub applies_to_none : (c : CommitmentValue) (hour : ℕ) (row : Charge) → is_in_term c hour ≡ false → applied c hour row ≡ None
unfolding applied fits
applies_to_none c hour row out = two_ways (is_open hour row) (λ open_row. rw (out, open_row) refl) (λ closed. rw (out, closed) refl)

-- it has no pairs
no_pairs_from : (c : ℕ × CommitmentValue) (hour : ℕ) (rows : List (ℕ × Charge)) → is_in_term c.1 hour ≡ false → filter_map (pair_for hour c) rows ≡ []
unfolding pair_for
no_pairs_from c hour [] out = refl
no_pairs_from c hour (row ∷ rows) out = rw (applies_to_none c.1 hour row.1 out) (no_pairs_from c hour rows out)

no_pairs_of : (c : ℕ × CommitmentValue) (hour : ℕ) (rows : List Charge) → is_in_term c.1 hour ≡ false → pairs_of_commitment hour rows c ≡ []
unfolding pairs_of_commitment
no_pairs_of c hour rows out = ap (in_order has_lower_rate) (no_pairs_from c hour (enumerate_from 0 rows) out)

-- ---- the order of a roster
-- it leaves out no commitment whose term has one of its hours
pub roster_running : (r : RosterValue) (hour : ℕ) → HasHour r hour → filter (λ c. is_in_term c.1 hour) (roster_order r) ≡ filter (λ c. is_in_term c.1 hour) (commitments_in_order r.commitments)
unfolding roster_order
roster_running r hour has = filter_twice (λ c. runs_between r.from r.to c.1) (λ c. is_in_term c.1 hour) (λ c out. not_in_term r hour c.1 has out) (commitments_in_order r.commitments)

pub roster_pairs : (r : RosterValue) (rows : List Charge) (hour : ℕ) → HasHour r hour → flat_map (pairs_of_commitment hour rows) (roster_order r) ≡ pairs_of r.commitments rows hour
unfolding roster_order pairs_of
roster_pairs r rows hour has =
    flat_filter (λ c. runs_between r.from r.to c.1) (pairs_of_commitment hour rows) (λ c out. no_pairs_of c hour rows (not_in_term r hour c.1 has out)) (commitments_in_order r.commitments)

-- each commitment stands at a place of its own
pub roster_places_apart : (r : RosterValue) → PlacesApart (roster_order r)
unfolding roster_order
roster_places_apart r = filter_apart (λ c. runs_between r.from r.to c.1) (commitments_in_order r.commitments) (order_places_apart r.commitments)

-- and the places are those in the list
pub roster_placed : (r : RosterValue) → All (λ c. slice_get r.commitments c.0 ≡ Some c.1) (roster_order r)
unfolding roster_order
roster_placed r = All-filter (λ c. runs_between r.from r.to c.1) (λ c. slice_get r.commitments c.0 ≡ Some c.1) (commitments_in_order r.commitments) (commitments_in_order_places r.commitments)

roster_valid : (r : RosterValue) → All IsCommitment r.commitments → All (λ c. IsCommitment c.1.1) (enumerate_from 0 (roster_order r))
unfolding roster_order
roster_valid r valid = all_enumerate (λ c. IsCommitment c.1.1) (roster_order r)
    (All-filter (λ c. runs_between r.from r.to c.1) (λ c. IsCommitment c.1) (commitments_in_order r.commitments) (ordered_valid r.commitments valid))

-- the offers of its table are of these commitments
roster_ranks : (r : RosterValue) (places ks : List ℕ) (table : List (Vec Offer Global)) → IsRoster r places ks table → All (All (λ o. o.standing.0 < length places)) (table_view table)
unfolding index_of
roster_ranks r places ks table is =
    let cs : List (ℕ × CommitmentValue) = roster_order r in
    let IsOf : OfferValue → Type 0 = λ o. o.standing.0 < length places in
    let long : length places ≡ length cs = ap length is.order ∙ length-map cs (λ c. c.0) in
    let placed : All (λ c. c.0 < length places) (enumerate_from 0 cs) = all_enumerate (λ c. c.0 < length places) cs (λ k d lt. omega (arith, lt, long)) in
    rw is.table_is (all_in_table (length table) IsOf (index_of cs) (all_in_order offer_before IsOf (offers_of cs) (all_flat_map IsOf offers_by (enumerate_from 0 cs)
    (λ k d lt. All-map IsOf (offer_for (get_or (enumerate_from 0 cs) k d)) (listings (get_or (enumerate_from 0 cs) k d).1.1.terms) (λ j e l. placed k d lt)))))

-- ---- what it lists
-- the offers of a SKU in its table are those of the roster
pub offers_are : (r : RosterValue) (places ks : List ℕ) (table : List (Vec Offer Global)) (sku : List ℕ) → IsRoster r places ks table → offered_in sku (table_view table) ≡ offers_in r sku
unfolding offers_in
offers_are r places ks table sku is = ap (offered_in sku) is.table_is ∙ offered_table (length table) (index_of (roster_order r)) sku is.some

-- so of the SKUs of rows
row_offers_are : (r : RosterValue) (places ks : List ℕ) (table : List (Vec Offer Global)) (rows : List Charge) → IsRoster r places ks table → map (row_offers (table_view table)) rows ≡ map (offers_of_row r) rows
row_offers_are r places ks table rows is = λ j. map (λ (row : Charge). option_map_or (λ sku. offers_are r places ks table sku is j) row.sku []) rows

-- the offers of rows are of these commitments
row_ranks : (n : ℕ) (table : List (List OfferValue)) (rows : List Charge) → All (All (λ o. o.standing.0 < n)) table → All (All (λ o. o.standing.0 < n)) (map (row_offers table) rows)
row_ranks n table rows ranks = All-map (All IsOf) (row_offers table) rows (λ k d lt. one (get_or rows k d).sku)
  where
    IsOf : OfferValue → Type 0
    IsOf o = o.standing.0 < n

    one : (sku : Option (List ℕ)) → All IsOf (option_map_or (λ sku. offered_in sku table) sku [])
    one None = All-nil IsOf
    one (Some sku) = All-filter (λ o. bytes_eq o.sku sku) IsOf (get_or table (list_for (length table) sku) []) (all_at IsOf table (list_for (length table) sku) ranks)

-- ---- what it gives of an hour
pairs_are : (r : RosterValue) (places ks : List ℕ) (table : List (Vec Offer Global)) (rows : List Charge) (hour : ℕ) → IsRoster r places ks table → HasHour r hour
    → map (λ q. q.pair) (in_order ranked_before (flat_map (pairs_with hour (table_view table)) (enumerate_from 0 rows))) ≡ pairs_of r.commitments rows hour
pairs_are r places ks table rows hour is has =
    ap (λ i. map (λ q. q.pair) (in_order ranked_before (flat_map (pairs_with hour i) (enumerate_from 0 rows)))) is.table_is
    ∙ (ap (λ l. map (λ q. q.pair) (in_order ranked_before l)) (pairs_by_row_table (length table) hour (enumerate_from 0 rows) (roster_order r) is.some (roster_valid r is.valid))
    ∙ (pairs_in_turn (roster_order r) rows hour ∙ roster_pairs r rows hour has))

-- so by the offers of the rows
pub pairs_found : (r : RosterValue) (places ks : List ℕ) (table : List (Vec Offer Global)) (rows : List Charge) (hour : ℕ) (offers : List (List OfferValue)) (pairs : List Pair) → IsRoster r places ks table → HasHour r hour
    → offers ≡ map (offers_of_row r) rows
    → ((table : List (List OfferValue)) → offers ≡ map (row_offers table) rows → All (All (λ o. o.standing.0 < length places)) table → pairs ≡ map (λ q. q.pair) (in_order ranked_before (flat_map (pairs_with hour table) (enumerate_from 0 rows))))
    → pairs ≡ pairs_of r.commitments rows hour
pairs_found r places ks table rows hour offers pairs is has given found =
    found (table_view table) (given ∙ sym (row_offers_are r places ks table rows is)) (roster_ranks r places ks table is) ∙ pairs_are r places ks table rows hour is has

-- and the offers are of the commitments in its order
pub offers_ranked : (r : RosterValue) (places ks : List ℕ) (table : List (Vec Offer Global)) (rows : List Charge) (offers : List (List OfferValue)) → IsRoster r places ks table → offers ≡ map (offers_of_row r) rows
    → All (All (λ o. o.standing.0 < length places)) offers
offers_ranked r places ks table rows offers is given =
    rw (given ∙ sym (row_offers_are r places ks table rows is)) (row_ranks (length places) (table_view table) rows (roster_ranks r places ks table is))

-- what was taken stands commitment by commitment in the roster's order
pub roster_grouped : (r : RosterValue) (rows : List Charge) (hour : ℕ) → HasHour r hour → hour_cover r.commitments rows hour ≡ flat_map (λ c. takes_of c.0 (hour_cover r.commitments rows hour)) (roster_order r)
roster_grouped r rows hour has = grouped_by r.commitments rows hour (roster_order r) (roster_places_apart r) (roster_pairs r rows hour has)
