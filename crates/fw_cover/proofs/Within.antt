-- The pairs of an hour name commitments and rows that are there, with numbers in range.
use Rattle.std.proofs.Common.{◌≡◌, ℕ, ◌<◌, ◌≤◌, ◌^◌, Bool, true, false, ◌&&◌, List, [], ◌∷◌, length, get_or, map, All, Option, Some, None, IfSome, ℤ, pos, negsuc, refl, subst, arith, unwrap_or, option_map, option_and_then, find, zero-add}
use Rattle.std.proofs.lemmas.Option.{slice_get-get_or}
use Rattle.std.specs.Prelude.{unsigned_abs, slice_index, slice_get}
use Rattle.std.specs.List.{enumerate_from, filter_map, flat_map, cons_option}
use Rattle.std.specs.Option.{IsSome}
use Rattle.std.specs.Str.{bytes_eq}
use Rattle.std.proofs.lemmas.List.{length-map, get_or-map}
use Rattle.std.proofs.lemmas.List.FromFn.{length-enumerate_from, get_or-enumerate_from}
use Rattle.std.proofs.lemmas.List.Elements.{All-cons, All-nil, All-head, All-append, All-map, All-tail}
use Rattle.fw_charge.specs.Charge.{Charge}
use Rattle.fw_terms.specs.Commitment.{CommitmentValue, TermsValue, IsCommitment, IsTerms}
use Rattle.fw_terms.specs.Commitment.TermsValue.{usage, spend}
use Rattle.fw_cover.specs.Eligible.{is_eligible, is_positive, is_open_use, is_measured}
use Rattle.fw_cover.specs.Applies.{Listing, listings, applied, fits, rate_for, is_open}
use Rattle.fw_cover.specs.Order.{in_order, commitments_in_order, commitment_before, pair_for, has_lower_rate, pairs_of_commitment, pairs_of}
use Rattle.fw_cover.specs.Cover.{IsPairWithin}
use Rattle.fw_cover.specs.Hour.{quantity_of, billed_of, quantities_of, capacities_of}
use Rattle.fw_cover.specs.declared.pair.Pair.{Pair}
use Rattle.std.proofs.lemmas.Bool.{ltb-true, and_parts}
use Rattle.fw_cover.proofs.Sorting.{insert_all, two_ways}

-- ---- what holds of each element of a list holds of those that are made of it

pub all_in_order : {X : Type 0} (before : X → X → Bool) (P : X → Type 0) (xs : List X) → All P xs → All P (in_order before xs)
all_in_order before P [] all = all
all_in_order before P (x ∷ xs) all = insert_all before P x (in_order before xs) (All-head P x xs all) (all_in_order before P xs (All-tail P x xs all))

kept_all : {Y : Type 0} (P : Y → Type 0) (o : Option Y) (ys : List Y) → ((y : Y) → o ≡ Some y → P y) → All P ys → All P (cons_option o ys)
kept_all P None ys h all = all
kept_all P (Some y) ys h all = All-cons P y ys (h y refl) all

pub all_filter_map : {X Y : Type 0} (P : Y → Type 0) (h : X → Option Y) (xs : List X) → All (λ x. (y : Y) → h x ≡ Some y → P y) xs → All P (filter_map h xs)
all_filter_map P h [] all = All-nil P
all_filter_map {X} {Y} P h (x ∷ xs) all = let Q : X → Type 0 = λ x. (y : Y) → h x ≡ Some y → P y in
    kept_all P (h x) (filter_map h xs) (All-head Q x xs all) (all_filter_map P h xs (All-tail Q x xs all))

pub all_flat_map : {X Y : Type 0} (P : Y → Type 0) (f : X → List Y) (xs : List X) → All (λ x. All P (f x)) xs → All P (flat_map f xs)
all_flat_map P f [] all = All-nil P
all_flat_map {X} P f (x ∷ xs) all = let Q : X → Type 0 = λ x. All P (f x) in
    All-append P (f x) (flat_map f xs) (All-head Q x xs all) (all_flat_map P f xs (All-tail Q x xs all))

pub all_under : {X Y : Type 0} (f : X → Y) (P : Y → Type 0) (xs : List X) → All P (map f xs) → All (λ x. P (f x)) xs
all_under f P [] all = All-nil (λ x. P (f x))
all_under f P (x ∷ xs) all = All-cons (λ x. P (f x)) x xs (All-head P (f x) (map f xs) all) (all_under f P xs (All-tail P (f x) (map f xs) all))

pub all_enumerate : {X : Type 0} (P : ℕ × X → Type 0) (xs : List X) → ((k : ℕ) (d : X) → k < length xs → P (k, get_or xs k d)) → All P (enumerate_from 0 xs)
all_enumerate P xs h k d lt = let lt' : k < length xs = omega (arith, lt, length-enumerate_from 0 xs) in
    rw (get_or-enumerate_from 0 xs k d lt', zero-add) (h k d.1 lt')

-- ---- a row that commitments may cover
positive : (q : Option ℤ) → is_positive q ≡ true → 0 < unsigned_abs (unwrap_or q (pos 0))
positive None h = absurd (let e : false ≡ true = h in cc)
positive (Some (pos n)) h = ltb-true 0 n h
positive (Some (negsuc n)) h = omega arith

pub eligible_quantity : (row : Charge) → is_eligible row ≡ true → 0 < quantity_of row
unfolding is_eligible
eligible_quantity row h =
    positive row.quantity (and_parts (is_positive row.quantity) _ (and_parts _ _ (and_parts _ _ (and_parts (is_open_use row) (is_measured row) h).1).0).0).0

-- ---- the rate of a commitment
abbrev IsRate : Option ℕ → Type 0
IsRate rate = IfSome rate (λ n. n ≤ 1000000)

small_rates : (terms : TermsValue) → IsTerms terms → All (λ l. IsRate l.rate) (listings terms)
small_rates (usage unit skus) is = All-map (λ l. IsRate l.rate) (λ sku. record { sku = sku; rate = None }) skus (λ k d lt. tt)
small_rates (spend rates) is = All-map (λ l. IsRate l.rate) (λ r. record { sku = r.sku; rate = Some r.ppm }) rates (λ k d lt. (is.each k d lt).most)

find_known : {X : Type 0} (P : X → Type 0) (p : X → Bool) (xs : List X) → All P xs → IfSome (find p xs) P
find_known P p [] all = tt
find_known P p (x ∷ xs) all = two_ways (p x) (λ holds. rw holds (All-head P x xs all)) (λ fails. rw fails (find_known P p xs (All-tail P x xs all)))

rate_from : (P : Option ℕ → Type 0) (o : Option Listing) → IfSome o (λ l. P l.rate) → IfSome (option_map (λ l. l.rate) o) P
rate_from P None h = tt
rate_from P (Some l) h = h

and_then_rate : (P : Option ℕ → Type 0) (terms : TermsValue) (sku : Option (List ℕ)) → All (λ l. P l.rate) (listings terms) → IfSome (option_and_then (rate_for terms) sku) P
and_then_rate P terms None all = tt
and_then_rate P terms (Some sku) all =
    rate_from P (find (λ l. bytes_eq l.sku sku) (listings terms)) (find_known (λ l. P l.rate) (λ l. bytes_eq l.sku sku) (listings terms) all)

-- what holds of each rate that a commitment lists holds of the one at which it applies
pub applied_rate : (P : Option ℕ → Type 0) (c : CommitmentValue) (hour : ℕ) (row : Charge) → All (λ l. P l.rate) (listings c.terms) → IfSome (applied c hour row) P
unfolding applied
applied_rate P c hour row all = two_ways (is_open hour row && fits c hour row) (λ holds. rw holds (and_then_rate P c.terms row.sku all)) (λ fails. rw fails tt)

-- a commitment that applies to a row applies to one that commitments may cover, in its term
pub open_from : (c : CommitmentValue) (hour : ℕ) (row : Charge) → IsSome (applied c hour row) → (is_open hour row && fits c hour row) ≡ true
unfolding applied
open_from c hour row some = two_ways (is_open hour row && fits c hour row) (λ holds. holds) (λ fails. let none : false ≡ true = rw fails at some in absurd (cc))

pub eligible_from : (c : CommitmentValue) (hour : ℕ) (row : Charge) → IsSome (applied c hour row) → is_eligible row ≡ true
eligible_from c hour row some = (and_parts (is_eligible row) _ (and_parts (is_open hour row) (fits c hour row) (open_from c hour row some)).0).0

-- what is known of a commitment that applies to a row
record Applied (row : Charge) (rate : Option ℕ) : Type 0 where
  eligible : is_eligible row ≡ true
  charged : IsRate rate

applied_known : (c : CommitmentValue) (hour : ℕ) (row : Charge) → IsCommitment c → IfSome (applied c hour row) (Applied row)
applied_known c hour row is = both (applied c hour row) (λ some. eligible_from c hour row some) (applied_rate IsRate c hour row (small_rates c.terms is.terms))
  where
    both : (o : Option (Option ℕ)) → (IsSome o → is_eligible row ≡ true) → IfSome o IsRate → IfSome o (Applied row)
    both None eligible charged = tt
    both (Some rate) eligible charged = record { eligible = eligible refl; charged = charged }

-- ---- the pairs
-- a commitment beside its place in cs, and a row beside its place in rows
abbrev IsPlaced : List CommitmentValue → ℕ × CommitmentValue → Type 0
IsPlaced cs c = (c.0 < length cs) × IsCommitment c.1 × (slice_index (capacities_of cs) c.0 ≡ c.1.capacity)

abbrev IsNumbered : List Charge → ℕ × Charge → Type 0
IsNumbered rows row = (row.0 < length rows) × (slice_index (quantities_of rows) row.0 ≡ quantity_of row.1)

abbrev IsWithin : List CommitmentValue → List Charge → Pair → Type 0
IsWithin cs rows = IsPairWithin (billed_of rows) (quantities_of rows) (capacities_of cs)

within_of : (cs : List CommitmentValue) (rows : List Charge) (c : ℕ × CommitmentValue) (row : ℕ × Charge) → All (λ b. b ≤ 10 ^ 17) (billed_of rows) → All (λ q. q ≤ 10 ^ 17) (quantities_of rows) → IsPlaced cs c → IsNumbered rows row
    → (o : Option (Option ℕ)) → IfSome o (Applied row.1) → (p : Pair) → option_map (λ rate. record { commitment = c.0; row = row.0; rate = rate }) o ≡ Some p → IsWithin cs rows p
within_of cs rows c row small few placed numbered None known p h = absurd (let e : None ≡ Some p = h in cc)
within_of cs rows c row small few placed numbered (Some rate) known p h =
    let within : IsWithin cs rows (record { commitment = c.0; row = row.0; rate = rate }) = record {
      commitment = omega (arith, placed.0, length-map cs (λ c. c.capacity));
      row = omega (arith, numbered.0, length-map rows quantity_of);
      quantity = rw numbered.1 (eligible_quantity row.1 known.eligible);
      quantity_most = few row.0 0 (omega (arith, numbered.0, length-map rows quantity_of));
      capacity_most = rw placed.2 placed.1.capacity_most;
      billed = small row.0 0 (omega (arith, numbered.0, length-map rows (λ row. unsigned_abs row.billed)));
      rate = known.charged;
    } in
    subst (λ o. IfSome o (IsWithin cs rows)) h within

commitment_within : (cs : List CommitmentValue) (rows : List Charge) (hour : ℕ) (c : ℕ × CommitmentValue) → All (λ b. b ≤ 10 ^ 17) (billed_of rows) → All (λ q. q ≤ 10 ^ 17) (quantities_of rows) → IsPlaced cs c → All (IsNumbered rows) (enumerate_from 0 rows)
    → All (IsWithin cs rows) (pairs_of_commitment hour rows c)
unfolding pairs_of_commitment pair_for
commitment_within cs rows hour c small few placed numbered =
    let beside : List (ℕ × Charge) = enumerate_from 0 rows in
    all_in_order has_lower_rate (IsWithin cs rows) (filter_map (pair_for hour c) beside)
    (all_filter_map (IsWithin cs rows) (pair_for hour c) beside
    (λ k d lt p h. within_of cs rows c (get_or beside k d) small few placed (numbered k d lt) (applied c.1 hour (get_or beside k d).1) (applied_known c.1 hour (get_or beside k d).1 placed.1) p h))

pub pairs_within : (cs : List CommitmentValue) (rows : List Charge) (hour : ℕ) → All IsCommitment cs → All (λ b. b ≤ 10 ^ 17) (billed_of rows) → All (λ q. q ≤ 10 ^ 17) (quantities_of rows) → All (IsWithin cs rows) (pairs_of cs rows hour)
unfolding pairs_of commitments_in_order
pairs_within cs rows hour valid small few =
    let placed : All (IsPlaced cs) (commitments_in_order cs) = all_in_order commitment_before (IsPlaced cs) (enumerate_from 0 cs) (all_enumerate (IsPlaced cs) cs (λ k d lt. (lt, valid k d lt, get_or-map (λ c. c.capacity) cs k d 0 lt))) in
    let numbered : All (IsNumbered rows) (enumerate_from 0 rows) = all_enumerate (IsNumbered rows) rows (λ k d lt. (lt, get_or-map quantity_of rows k d 0 lt)) in
    all_flat_map (IsWithin cs rows) (pairs_of_commitment hour rows) (commitments_in_order cs) (λ k d lt. commitment_within cs rows hour (get_or (commitments_in_order cs) k d) small few (placed k d lt) numbered)

-- ---- the places in the order are those in the list

pub commitments_in_order_places : (cs : List CommitmentValue) → All (λ c. slice_get cs c.0 ≡ Some c.1) (commitments_in_order cs)
unfolding commitments_in_order
commitments_in_order_places cs =
    all_in_order commitment_before (λ c. slice_get cs c.0 ≡ Some c.1) (enumerate_from 0 cs) (all_enumerate (λ c. slice_get cs c.0 ≡ Some c.1) cs (slice_get-get_or cs))

-- each commitment of the order keeps its limits
pub ordered_valid : (cs : List CommitmentValue) → All IsCommitment cs → All (λ c. IsCommitment c.1) (commitments_in_order cs)
unfolding commitments_in_order
ordered_valid cs valid = all_in_order commitment_before (λ c. IsCommitment c.1) (enumerate_from 0 cs) (all_enumerate (λ c. IsCommitment c.1) cs (λ k d lt. valid k d lt))
