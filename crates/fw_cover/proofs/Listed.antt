-- Which SKUs a roster lists, and that no commitment applies to a row of another one.
use Rattle.std.proofs.Common.{◌≡◌, ◌∙◌, ℕ, ◌+◌, ◌==◌, Bool, true, false, not, ◌&&◌, ◌||◌, List, [], ◌∷◌, length, get_or, map, filter, find, All, Option, Some, None, is_some, option_map, option_and_then, refl, sym, ap, arith}
use Rattle.std.specs.List.{enumerate_from, flat_map, list_any}
use Rattle.std.specs.Option.{option_map_or}
use Rattle.std.specs.Str.{bytes_eq}
use Rattle.std.proofs.lemmas.Bool.{ne_eqb}
use Rattle.std.proofs.lemmas.List.Folds.{list_any-append, list_any_at}
use Rattle.fw_charge.specs.Charge.{Charge}
use Rattle.fw_terms.specs.Commitment.{CommitmentValue}
use Rattle.fw_cover.specs.Applies.{Listing, applied, fits, is_open, listings, rate_for}
use Rattle.fw_cover.specs.Offers.{index_of, offer_for, offers_by, offers_of}
use Rattle.fw_cover.specs.Order.{commitment_before, commitments_in_order, in_order, insert_by}
use Rattle.fw_cover.specs.RosterView.{HasHour, RosterValue, lists_row, lists_sku, offers_in, roster_order, runs_between}
use Rattle.fw_cover.specs.Untouched.{IsUntouched}
use Rattle.fw_cover.proofs.Index.{offered_in_order}
use Rattle.fw_cover.proofs.RosterFacts.{applies_to_none, not_in_term}
use Rattle.fw_cover.proofs.Sorting.{two_ways}

-- ---- whether an element passes a test, in lists that are made of others
exchanged : (a b c : Bool) → (a || (b || c)) ≡ (b || (a || c))
exchanged true true c = refl
exchanged true false c = refl
exchanged false b c = refl

any_inserted : {X : Type 0} (before : X → X → Bool) (p : X → Bool) (x : X) (ys : List X) → list_any p (insert_by before x ys) ≡ (p x || list_any p ys)
any_inserted before p x [] = refl
any_inserted before p x (y ∷ ys) = two_ways (before y x)
    (λ first. rw first (ap (λ b. p y || b) (any_inserted before p x ys) ∙ exchanged (p y) (p x) (list_any p ys)))
    (λ later. rw later refl)

any_in_order : {X : Type 0} (before : X → X → Bool) (p : X → Bool) (xs : List X) → list_any p (in_order before xs) ≡ list_any p xs
any_in_order before p [] = refl
any_in_order before p (x ∷ xs) = any_inserted before p x (in_order before xs) ∙ ap (λ b. p x || b) (any_in_order before p xs)

any_filtered : {X : Type 0} (q p : X → Bool) (xs : List X) → list_any p (filter q xs) ≡ list_any (λ x. q x && p x) xs
any_filtered q p [] = refl
any_filtered q p (x ∷ xs) = two_ways (q x)
    (λ holds. rw holds (ap (λ b. p x || b) (any_filtered q p xs)))
    (λ fails. rw fails (any_filtered q p xs))

any_enumerated : {X : Type 0} (p : X → Bool) (n : ℕ) (xs : List X) → list_any (λ c. p c.1) (enumerate_from n xs) ≡ list_any p xs
any_enumerated p n [] = refl
any_enumerated p n (x ∷ xs) = ap (λ b. p x || b) (any_enumerated p (n + 1) xs)

any_kept : {X : Type 0} (p : X → Bool) (xs : List X) → not (length (filter p xs) == 0) ≡ list_any p xs
any_kept p [] = refl
any_kept p (x ∷ xs) = two_ways (p x)
    (λ holds. let some : (length (x ∷ filter p xs) == 0) ≡ false = ne_eqb (length (x ∷ filter p xs)) 0 (λ e. omega (arith, e)) in rw (holds, some) refl)
    (λ fails. rw fails (any_kept p xs))

-- ---- the offers of a SKU in a roster
any_listed : (sku : List ℕ) (c : ℕ × (ℕ × CommitmentValue)) (ls : List Listing) → list_any (λ o. bytes_eq o.sku sku) (map (offer_for c) ls) ≡ is_some (option_map (λ l. l.rate) (find (λ l. bytes_eq l.sku sku) ls))
any_listed sku c [] = refl
any_listed sku c (l ∷ ls) = two_ways (bytes_eq l.sku sku)
    (λ same. rw same refl)
    (λ other. rw other (any_listed sku c ls))

any_offered : (sku : List ℕ) (n : ℕ) (cs : List (ℕ × CommitmentValue)) → list_any (λ o. bytes_eq o.sku sku) (flat_map offers_by (enumerate_from n cs)) ≡ list_any (λ c. is_some (rate_for c.1.terms sku)) cs
any_offered sku n [] = refl
any_offered sku n (c ∷ cs) =
    list_any-append (λ o. bytes_eq o.sku sku) (offers_by (n, c)) (flat_map offers_by (enumerate_from (n + 1) cs))
    ∙ (λ j. any_listed sku (n, c) (listings c.1.terms) j || any_offered sku (n + 1) cs j)

any_running : (r : RosterValue) (p : CommitmentValue → Bool) → list_any (λ c. p c.1) (roster_order r) ≡ list_any (λ c. runs_between r.from r.to c && p c) r.commitments
unfolding roster_order commitments_in_order
any_running r p =
    any_filtered (λ c. runs_between r.from r.to c.1) (λ c. p c.1) (commitments_in_order r.commitments)
    ∙ any_in_order commitment_before (λ c. runs_between r.from r.to c.1 && p c.1) (enumerate_from 0 r.commitments)
    ∙ any_enumerated (λ c. runs_between r.from r.to c && p c) 0 r.commitments

-- there are some exactly where the roster lists the SKU
pub listed_by_offers : (r : RosterValue) (sku : List ℕ) → not (length (offers_in r sku) == 0) ≡ lists_sku r sku
unfolding offers_in index_of lists_sku
listed_by_offers r sku =
    let cs : List (ℕ × CommitmentValue) = roster_order r in
    ap (λ l. not (length l == 0)) (offered_in_order sku (offers_of cs)) ∙ any_kept (λ o. bytes_eq o.sku sku) (offers_of cs) ∙ any_offered sku 0 cs ∙ any_running r (λ c. is_some (rate_for c.terms sku))

-- ---- a row of a SKU that isn't listed
none_passes : {X : Type 0} (p : X → Bool) (xs : List X) → list_any p xs ≡ false → All (λ x. p x ≡ false) xs
none_passes p xs none = λ k d lt. two_ways (p (get_or xs k d))
    (λ holds. absurd (let clash : true ≡ false = sym (list_any_at p xs k d lt holds) ∙ none in cc))
    (λ fails. fails)

no_rate : (o : Option (Option ℕ)) → is_some o ≡ false → o ≡ None
no_rate None h = refl
no_rate (Some rate) h = absurd (cc)

not_applied : (c : CommitmentValue) (hour : ℕ) (row : Charge) → option_and_then (rate_for c.terms) row.sku ≡ None → applied c hour row ≡ None
unfolding applied
not_applied c hour row none = two_ways (is_open hour row && fits c hour row) (λ holds. rw holds none) (λ fails. rw fails refl)

by_sku : (r : RosterValue) (row : Charge) (hour : ℕ) (sku : Option (List ℕ)) → row.sku ≡ sku → HasHour r hour → option_map_or (lists_sku r) sku false ≡ false → IsUntouched r.commitments hour row
unfolding lists_sku
by_sku r row hour None is has none = λ k d lt. not_applied (get_or r.commitments k d) hour row (rw is refl)
by_sku r row hour (Some sku) is has none = λ k d lt.
    let c : CommitmentValue = get_or r.commitments k d in
    let one : (runs_between r.from r.to c && is_some (rate_for c.terms sku)) ≡ false = none_passes (λ c. runs_between r.from r.to c && is_some (rate_for c.terms sku)) r.commitments none k d lt in
    two_ways (runs_between r.from r.to c)
    (λ runs. let unlisted : is_some (rate_for c.terms sku) ≡ false = rw runs at one in not_applied c hour row (rw is (no_rate (rate_for c.terms sku) unlisted)))
    (λ rests. applies_to_none c hour row (not_in_term r hour c has rests))

pub unlisted_untouched : (r : RosterValue) (row : Charge) (hour : ℕ) → HasHour r hour → lists_row r row ≡ false → IsUntouched r.commitments hour row
unlisted_untouched r row hour has out = by_sku r row hour row.sku refl has out
