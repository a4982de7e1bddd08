-- What commitments cover of the rows that they apply to, where no other commitment applies to these: places of commitments that are `mine`, and places of
-- rows that are their `own`.
use Rattle.std.proofs.Common.{◌≡◌, ◌∙◌, ℕ, ◌+◌, ◌-◌, ◌==◌, Bool, true, false, cond, List, [], ◌∷◌, ◌++◌, All, get_or, map, filter, sum_by, Option, Some, None, option_map, refl, sym, ap, subst, append-nil, arith}
use Rattle.std.specs.Prelude.{slice_get, slice_index, unsigned_abs}
use Rattle.std.specs.Cmp.{IsStrictWeakOrder, IsTotalOrder}
use Rattle.std.specs.List.{cons_option, enumerate_from, filter_map, flat_map}
use Rattle.std.proofs.lemmas.Bool.{eqb-true, ne_eqb}
use Rattle.std.proofs.lemmas.Cmp.{nat_cmp_total, nat_list_cmp_total, on_total, then_total}
use Rattle.std.proofs.lemmas.List.{map-append}
use Rattle.std.proofs.lemmas.List.Elements.{All-append, All-cons, All-filter, All-head, All-nil, All-tail, filter-append, filter_passes}
use Rattle.std.proofs.lemmas.List.Sorted.{ranks_by}
use Rattle.std.proofs.lemmas.List.Sums.{sum_by-cons}
use Rattle.std.proofs.lemmas.Option.{slice_get-get_or}
use Rattle.fw_charge.specs.Charge.{Charge}
use Rattle.fw_cover.specs.Applies.{applied}
use Rattle.fw_cover.specs.Cover.{cover_of, taken_by, taken_of_row, takes_something, used_of}
use Rattle.fw_cover.specs.Hour.{billed_of, capacities_of, hour_cover, left_of, quantities_of, quantity_of, takes_of, unused_of}
use Rattle.fw_cover.specs.Meeting.{Meets}
use Rattle.fw_cover.specs.Order.{commitment_before, commitments_in_order, compare_commitments, has_lower_rate, in_order, insert_by, kind_rank, pair_for, pairs_of, pairs_of_commitment}
use Rattle.fw_cover.specs.declared.taken.Taken.{Taken}
use Rattle.fw_cover.proofs.ByCommitment.{filter_every, filter_none, insert_before}
use Rattle.fw_cover.proofs.Index.{filter_map_of}
use Rattle.fw_cover.proofs.Sorting.{Rises, in_order_rises, map_in_order}
use Rattle.fw_cover.proofs.Taking.{all_taken, taken_after}
use Rattle.fw_cover.proofs.Whole.{takes_meet}
use Rattle.fw_cover.proofs.Within.{all_enumerate, all_filter_map, all_flat_map, all_in_order, commitments_in_order_places}
use Rattle.fw_terms.specs.Commitment.{CommitmentValue}
use Rattle.fw_shards.proofs.ListFacts.{two_ways}
use Rattle.fw_shards.proofs.RankFacts.{kept, kept_from, kept_number, rank, rank_same, ranked, ranked_kept}

-- the pairs of `fw_cover`, which exports them under no name
abbrev pub item_of : {X : Type 0} → List X → Type 0
item_of {X} xs = X

abbrev pub Pair : Type 0
Pair = item_of (pairs_of [] [] 0)

-- ---- the order of those that pass a test
filter_out : {X : Type 0} (before : X → X → Bool) (p : X → Bool) (x : X) (ys : List X) → p x ≡ false → filter p (insert_by before x ys) ≡ filter p ys
filter_out before p x [] out = ap (λ t. cond t (x ∷ []) []) out
filter_out before p x (y ∷ ys) out = two_ways (before y x)
    (λ goes.
    ap (λ t. filter p (cond t (y ∷ insert_by before x ys) (x ∷ (y ∷ ys)))) goes
    ∙ ap (λ l. cond (p y) (y ∷ l) l) (filter_out before p x ys out))
    (λ stays.
    ap (λ t. filter p (cond t (y ∷ insert_by before x ys) (x ∷ (y ∷ ys)))) stays
    ∙ ap (λ t. cond t (x ∷ filter p (y ∷ ys)) (filter p (y ∷ ys))) out)

filter_in : {X : Type 0} (before : X → X → Bool) → IsStrictWeakOrder before → (p : X → Bool) (x : X) (ys : List X) → p x ≡ true → Rises before ys → filter p (insert_by before x ys) ≡ insert_by before x (filter p ys)
filter_in before o p x [] holds up = ap (λ t. cond t (x ∷ []) []) holds
filter_in {X} before o p x (y ∷ ys) holds up = two_ways (before y x)
    (λ goes.
    let first : filter p (insert_by before x (y ∷ ys)) ≡ cond (p y) (y ∷ insert_by before x (filter p ys)) (insert_by before x (filter p ys)) =
    ap (λ t. filter p (cond t (y ∷ insert_by before x ys) (x ∷ (y ∷ ys)))) goes
    ∙ ap (λ l. cond (p y) (y ∷ l) l) (filter_in before o p x ys holds up.1) in
    first ∙ two_ways (p y)
    (λ kept.
    ap (λ t. cond t (y ∷ insert_by before x (filter p ys)) (insert_by before x (filter p ys))) kept
    ∙ sym (ap (λ t. insert_by before x (cond t (y ∷ filter p ys) (filter p ys))) kept
    ∙ ap (λ t. cond t (y ∷ insert_by before x (filter p ys)) (x ∷ (y ∷ filter p ys))) goes))
    (λ dropped.
    ap (λ t. cond t (y ∷ insert_by before x (filter p ys)) (insert_by before x (filter p ys))) dropped
    ∙ sym (ap (λ t. insert_by before x (cond t (y ∷ filter p ys) (filter p ys))) dropped)))
    (λ stays.
    let Q : X → Type 0 = λ z. before z x ≡ false in
    let later : All Q (y ∷ ys) = All-cons Q y ys stays (λ k d lt. o.chain (get_or ys k d) y x (up.0 k d lt) stays) in
    ap (λ t. filter p (cond t (y ∷ insert_by before x ys) (x ∷ (y ∷ ys)))) stays
    ∙ ap (λ t. cond t (x ∷ filter p (y ∷ ys)) (filter p (y ∷ ys))) holds
    ∙ sym (insert_before before x [] (filter p (y ∷ ys)) (All-filter p Q (y ∷ ys) later)))

filter_in_order : {X : Type 0} (before : X → X → Bool) → IsStrictWeakOrder before → (p : X → Bool) (xs : List X) → filter p (in_order before xs) ≡ in_order before (filter p xs)
filter_in_order before o p [] = refl
filter_in_order before o p (x ∷ xs) = two_ways (p x)
    (λ holds.
    filter_in before o p x (in_order before xs) holds (in_order_rises before o xs)
    ∙ ap (insert_by before x) (filter_in_order before o p xs)
    ∙ sym (ap (λ t. in_order before (cond t (x ∷ filter p xs) (filter p xs))) holds))
    (λ fails.
    filter_out before p x (in_order before xs) fails
    ∙ filter_in_order before o p xs
    ∙ sym (ap (λ t. in_order before (cond t (x ∷ filter p xs) (filter p xs))) fails))

commitments_total : IsTotalOrder compare_commitments
unfolding compare_commitments
commitments_total =
    then_total (then_total (on_total (λ x. kind_rank x.1.terms) nat_cmp_total) (on_total (λ x. x.1.start) nat_cmp_total)) (on_total (λ x. x.1.id) nat_list_cmp_total)

commitments_weak : IsStrictWeakOrder commitment_before
commitments_weak = ranks_by commitments_total (λ x. x)

pub order_kept : (cs : List CommitmentValue) (mine : ℕ → Bool) → commitments_in_order (kept mine cs) ≡ map (ranked mine) (filter (λ x. mine x.0) (commitments_in_order cs))
unfolding commitments_in_order compare_commitments
order_kept cs mine =
    ap (in_order commitment_before) (ranked_kept mine cs)
    ∙ sym (map_in_order (ranked mine) commitment_before (kept_from mine 0 cs))
    ∙ ap (map (ranked mine)) (sym (filter_in_order commitment_before commitments_weak (λ x. mine x.0) (enumerate_from 0 cs)))

-- ---- lists
map_more : {X Y : Type 0} (f : X → Y) (o : Option X) (xs : List X) → map f (cons_option o xs) ≡ cons_option (option_map f o) (map f xs)
map_more f None xs = refl
map_more f (Some x) xs = refl

filter_map_kept : {X Y : Type 0} (h : X → Option Y) (p : X → Bool) (xs : List X) → All (λ x. p x ≡ false → h x ≡ None) xs → filter_map h (filter p xs) ≡ filter_map h xs
filter_map_kept h p [] none = refl
filter_map_kept {X} h p (x ∷ xs) none =
    let P : X → Type 0 = λ y. p y ≡ false → h y ≡ None in
    let rest = filter_map_kept h p xs (All-tail P x xs none) in
    two_ways (p x)
    (λ holds. ap (λ t. filter_map h (cond t (x ∷ filter p xs) (filter p xs))) holds ∙ ap (cons_option (h x)) rest)
    (λ fails. ap (λ t. filter_map h (cond t (x ∷ filter p xs) (filter p xs))) fails ∙ rest ∙ sym (ap (λ o. cons_option o (filter_map h xs)) (All-head P x xs none fails)))

filter_flat : {X Y : Type 0} (p : Y → Bool) (q : X → Bool) (f : X → List Y) → ((x : X) → All (λ y. p y ≡ q x) (f x)) → (xs : List X) → filter p (flat_map f xs) ≡ flat_map f (filter q xs)
filter_flat p q f same [] = refl
filter_flat {X} {Y} p q f same (x ∷ xs) =
    let rest = filter_flat p q f same xs in
    filter-append p (f x) (flat_map f xs) ∙ two_ways (q x)
    (λ holds.
    (λ j. filter_every p (f x) (λ k d lt. same x k d lt ∙ holds) j ++ rest j)
    ∙ sym (ap (λ t. flat_map f (cond t (x ∷ filter q xs) (filter q xs))) holds))
    (λ fails.
    (λ j. filter_none p (f x) (λ k d lt. same x k d lt ∙ fails) j ++ rest j)
    ∙ sym (ap (λ t. flat_map f (cond t (x ∷ filter q xs) (filter q xs))) fails))

pub filter_swap : {X : Type 0} (p q : X → Bool) (xs : List X) → filter p (filter q xs) ≡ filter q (filter p xs)
filter_swap p q [] = refl
filter_swap {X} p q (x ∷ xs) =
    let ps : List X = filter p xs in
    let qs : List X = filter q xs in
    let rest : filter p qs ≡ filter q ps = filter_swap p q xs in
    two_ways (p x)
    (λ here. two_ways (q x)
    (λ there.
    ap (λ t. filter p (cond t (x ∷ qs) qs)) there ∙ ap (λ t. cond t (x ∷ filter p qs) (filter p qs)) here ∙ ap (λ l. x ∷ l) rest
    ∙ sym (ap (λ t. filter q (cond t (x ∷ ps) ps)) here ∙ ap (λ t. cond t (x ∷ filter q ps) (filter q ps)) there))
    (λ out.
    ap (λ t. filter p (cond t (x ∷ qs) qs)) out ∙ rest
    ∙ sym (ap (λ t. filter q (cond t (x ∷ ps) ps)) here ∙ ap (λ t. cond t (x ∷ filter q ps) (filter q ps)) out)))
    (λ gone. two_ways (q x)
    (λ there.
    ap (λ t. filter p (cond t (x ∷ qs) qs)) there ∙ ap (λ t. cond t (x ∷ filter p qs) (filter p qs)) gone ∙ rest
    ∙ sym (ap (λ t. filter q (cond t (x ∷ ps) ps)) gone))
    (λ out.
    ap (λ t. filter p (cond t (x ∷ qs) qs)) out ∙ rest
    ∙ sym (ap (λ t. filter q (cond t (x ∷ ps) ps)) gone)))

nothing_more : (n : ℕ) → n ≡ 0 + n
nothing_more n = omega arith

sum_map : (f : Taken → ℕ) (h : Taken → Taken) (ts : List Taken) → sum_by f (map h ts) ≡ sum_by (λ t. f (h t)) ts
sum_map f h [] = refl
sum_map f h (t ∷ ts) = sum_by-cons f (h t) (map h ts) ∙ ap (λ n. f (h t) + n) (sum_map f h ts) ∙ sym (sum_by-cons (λ u. f (h u)) t ts)

-- a pair, and a take, by the places among those that are kept
abbrev pub pair_to : (ℕ → Bool) → (ℕ → Bool) → Pair → Pair
pair_to mine own p = record p { commitment = rank mine p.commitment; row = rank own p.row }

abbrev pub take_to : (ℕ → Bool) → (ℕ → Bool) → Taken → Taken
take_to mine own t = record t { commitment = rank mine t.commitment; row = rank own t.row }

module _ (cs : List CommitmentValue) (rows : List Charge) (hour : ℕ) (mine own : ℕ → Bool) (apart : (place row : ℕ) → Meets cs rows hour place row → mine place ≡ own row) where
  abbrev pair_of : Pair → Pair
  pair_of p = pair_to mine own p

  abbrev take_of : Taken → Taken
  take_of t = take_to mine own t

  -- ---- pairs
  at_ranked : (c : ℕ × CommitmentValue) (row : ℕ × Charge) (o : Option (Option ℕ))
      → option_map (λ rate. let p : Pair = record { commitment = rank mine c.0; row = rank own row.0; rate = rate } in p) o ≡ option_map pair_of (option_map (λ rate. let p : Pair = record { commitment = c.0; row = row.0; rate = rate } in p) o)
  at_ranked c row None = refl
  at_ranked c row (Some rate) = refl

  pair_ranked : (c : ℕ × CommitmentValue) (row : ℕ × Charge) → pair_for hour (ranked mine c) (ranked own row) ≡ option_map pair_of (pair_for hour c row)
  unfolding pair_for
  pair_ranked c row = at_ranked c row (applied c.1 hour row.1)

  pairs_ranked : (c : ℕ × CommitmentValue) (xs : List (ℕ × Charge)) → filter_map (pair_for hour (ranked mine c)) (map (ranked own) xs) ≡ map pair_of (filter_map (pair_for hour c) xs)
  pairs_ranked c [] = refl
  pairs_ranked c (x ∷ xs) =
      ap (λ o. cons_option o (filter_map (pair_for hour (ranked mine c)) (map (ranked own) xs))) (pair_ranked c x)
      ∙ ap (cons_option (option_map pair_of (pair_for hour c x))) (pairs_ranked c xs)
      ∙ sym (map_more pair_of (pair_for hour c x) (filter_map (pair_for hour c) xs))

  no_pair : (c : ℕ × CommitmentValue) (row : ℕ × Charge) → slice_get cs c.0 ≡ Some c.1 → mine c.0 ≡ true → slice_get rows row.0 ≡ Some row.1 → own row.0 ≡ false → (o : Option (Option ℕ)) → applied c.1 hour row.1 ≡ o
      → pair_for hour c row ≡ None
  unfolding pair_for
  no_pair c row at_place holds at_row out None e = ap (option_map (λ rate. let p : Pair = record { commitment = c.0; row = row.0; rate = rate } in p)) e
  no_pair c row at_place holds at_row out (Some rate) e =
      let meets : Meets cs rows hour c.0 row.0 = record { commitment = c.1; charge = row.1; at_place = at_place; at_row = at_row; applies = rw e refl } in
      let clash : true ≡ false = sym holds ∙ apart c.0 row.0 meets ∙ out in
      absurd (cc)

  pairs_of_one : (c : ℕ × CommitmentValue) → slice_get cs c.0 ≡ Some c.1 → mine c.0 ≡ true → pairs_of_commitment hour (kept own rows) (ranked mine c) ≡ map pair_of (pairs_of_commitment hour rows c)
  unfolding pairs_of_commitment
  pairs_of_one c at_place holds =
      let none : All (λ x. own x.0 ≡ false → pair_for hour c x ≡ None) (enumerate_from 0 rows) =
      all_enumerate (λ x. own x.0 ≡ false → pair_for hour c x ≡ None) rows
      (λ k d lt out. no_pair c (k, get_or rows k d) at_place holds (slice_get-get_or rows k d lt) out (applied c.1 hour (get_or rows k d)) refl) in
      ap (in_order has_lower_rate) (ap (filter_map (pair_for hour (ranked mine c))) (ranked_kept own rows)
      ∙ pairs_ranked c (kept_from own 0 rows)
      ∙ ap (map pair_of) (filter_map_kept (pair_for hour c) (λ x. own x.0) (enumerate_from 0 rows) none))
      ∙ sym (map_in_order pair_of has_lower_rate (filter_map (pair_for hour c) (enumerate_from 0 rows)))

  abbrev IsMine : ℕ × CommitmentValue → Type 0
  IsMine c = (slice_get cs c.0 ≡ Some c.1) × (mine c.0 ≡ true)

  pairs_of_all : (xs : List (ℕ × CommitmentValue)) → All IsMine xs → flat_map (pairs_of_commitment hour (kept own rows)) (map (ranked mine) xs) ≡ map pair_of (flat_map (pairs_of_commitment hour rows) xs)
  pairs_of_all [] all = refl
  pairs_of_all (c ∷ xs) all =
      let is = All-head IsMine c xs all in
      let one = pairs_of_one c is.0 is.1 in
      let rest = pairs_of_all xs (All-tail IsMine c xs all) in
      (λ j. one j ++ rest j) ∙ sym (map-append pair_of (pairs_of_commitment hour rows c) (flat_map (pairs_of_commitment hour rows) xs))

  all_mine : All IsMine (filter (λ c. mine c.0) (commitments_in_order cs))
  all_mine = λ k d lt. (
    All-filter (λ c. mine c.0) (λ c. slice_get cs c.0 ≡ Some c.1) (commitments_in_order cs) (commitments_in_order_places cs) k d lt,
    filter_passes (λ c. mine c.0) (commitments_in_order cs) k d lt,
  )

  same_commitment : (c : ℕ × CommitmentValue) (row : ℕ × Charge) (o : Option (Option ℕ)) (p : Pair) → option_map (λ rate. let q : Pair = record { commitment = c.0; row = row.0; rate = rate } in q) o ≡ Some p → mine p.commitment ≡ mine c.0
  same_commitment c row None p e = absurd (let none : None ≡ Some p = e in cc)
  same_commitment c row (Some rate) p e =
      let made : record { commitment = c.0; row = row.0; rate = rate } ≡ p = cc in
      ap (λ (q : Pair). mine q.commitment) (sym made)

  pairs_named : (c : ℕ × CommitmentValue) → All (λ p. mine p.commitment ≡ mine c.0) (pairs_of_commitment hour rows c)
  unfolding pairs_of_commitment pair_for
  pairs_named c =
      all_in_order has_lower_rate (λ p. mine p.commitment ≡ mine c.0) (filter_map (pair_for hour c) (enumerate_from 0 rows))
      (all_filter_map (λ p. mine p.commitment ≡ mine c.0) (pair_for hour c) (enumerate_from 0 rows)
      (λ k d lt p e. same_commitment c (get_or (enumerate_from 0 rows) k d) (applied c.1 hour (get_or (enumerate_from 0 rows) k d).1) p e))

  pairs_kept : pairs_of (kept mine cs) (kept own rows) hour ≡ map pair_of (filter (λ p. mine p.commitment) (pairs_of cs rows hour))
  unfolding pairs_of
  pairs_kept =
      ap (flat_map (pairs_of_commitment hour (kept own rows))) (order_kept cs mine)
      ∙ pairs_of_all (filter (λ c. mine c.0) (commitments_in_order cs)) all_mine
      ∙ ap (map pair_of) (sym (filter_flat (λ p. mine p.commitment) (λ c. mine c.0) (pairs_of_commitment hour rows) pairs_named (commitments_in_order cs)))

  -- each is of a commitment that applies to the row
  abbrev MeetsBy : Pair → Type 0
  MeetsBy p = Meets cs rows hour p.commitment p.row

  pair_meets : (c : ℕ × CommitmentValue) (row : ℕ × Charge) → slice_get cs c.0 ≡ Some c.1 → slice_get rows row.0 ≡ Some row.1 → (o : Option (Option ℕ)) → applied c.1 hour row.1 ≡ o → (p : Pair)
      → option_map (λ rate. let q : Pair = record { commitment = c.0; row = row.0; rate = rate } in q) o ≡ Some p → MeetsBy p
  pair_meets c row at_place at_row None by p h = absurd (let e : None ≡ Some p = h in cc)
  pair_meets c row at_place at_row (Some rate) by p h =
      let made : record { commitment = c.0; row = row.0; rate = rate } ≡ p = cc in
      subst MeetsBy made (record { commitment = c.1; charge = row.1; at_place = at_place; at_row = at_row; applies = rw by refl })

  one_meets : (c : ℕ × CommitmentValue) → slice_get cs c.0 ≡ Some c.1 → All MeetsBy (pairs_of_commitment hour rows c)
  unfolding pairs_of_commitment pair_for
  one_meets c at =
      all_in_order has_lower_rate MeetsBy (filter_map (pair_for hour c) (enumerate_from 0 rows))
      (all_filter_map MeetsBy (pair_for hour c) (enumerate_from 0 rows)
      (all_enumerate (λ row. (p : Pair) → pair_for hour c row ≡ Some p → MeetsBy p) rows
      (λ k d lt p h. pair_meets c (k, get_or rows k d) at (slice_get-get_or rows k d lt) (applied c.1 hour (get_or rows k d)) refl p h)))

  pairs_meet : All MeetsBy (pairs_of cs rows hour)
  unfolding pairs_of
  pairs_meet =
      all_flat_map MeetsBy (pairs_of_commitment hour rows) (commitments_in_order cs)
      (λ k d lt. one_meets (get_or (commitments_in_order cs) k d) (commitments_in_order_places cs k d lt))

  -- ---- what they take
  abbrev is_mine : Taken → Bool
  is_mine t = mine t.commitment

  kept_sum : (key amount : Taken → ℕ) (keep : ℕ → Bool) (i : ℕ) → keep i ≡ true → (ts : List Taken) → All (λ t. mine t.commitment ≡ keep (key t)) ts
      → sum_by (λ t. cond (rank keep (key t) == rank keep i) (amount t) 0) (filter is_mine ts) ≡ sum_by (λ t. cond (key t == i) (amount t) 0) ts
  kept_sum key amount keep i here [] all = refl
  kept_sum key amount keep i here (t ∷ ts) all =
      let P : Taken → Type 0 = λ u. mine u.commitment ≡ keep (key u) in
      let f : Taken → ℕ = λ u. cond (rank keep (key u) == rank keep i) (amount u) 0 in
      let g : Taken → ℕ = λ u. cond (key u == i) (amount u) 0 in
      let rest : sum_by f (filter is_mine ts) ≡ sum_by g ts = kept_sum key amount keep i here ts (All-tail P t ts all) in
      let is = All-head P t ts all in
      two_ways (mine t.commitment)
      (λ holds.
      ap (λ b. sum_by f (cond b (t ∷ filter is_mine ts) (filter is_mine ts))) holds
      ∙ sum_by-cons f t (filter is_mine ts)
      ∙ (λ j. cond (rank_same keep (key t) i (sym is ∙ holds) here j) (amount t) 0 + rest j)
      ∙ sym (sum_by-cons g t ts))
      (λ fails.
      let other : (key t == i) ≡ false = ne_eqb (key t) i (λ e. let clash : false ≡ true = sym fails ∙ is ∙ ap keep e ∙ here in absurd (cc)) in
      ap (λ b. sum_by f (cond b (t ∷ filter is_mine ts) (filter is_mine ts))) fails
      ∙ rest
      ∙ nothing_more (sum_by g ts)
      ∙ ap (λ b. cond b (amount t) 0 + sum_by g ts) (sym other)
      ∙ sym (sum_by-cons g t ts))

  abbrev IsApart : Taken → Type 0
  IsApart t = mine t.commitment ≡ own t.row

  taken_kept : (r : ℕ) → own r ≡ true → (ts : List Taken) → All IsApart ts → taken_of_row (rank own r) (map take_of (filter is_mine ts)) ≡ taken_of_row r ts
  unfolding taken_of_row
  taken_kept r here ts all =
      sum_map (λ t. cond (t.row == rank own r) t.quantity 0) take_of (filter is_mine ts)
      ∙ kept_sum (λ t. t.row) (λ t. t.quantity) own r here ts all

  used_kept : (i : ℕ) → mine i ≡ true → (ts : List Taken) → used_of (rank mine i) (map take_of (filter is_mine ts)) ≡ used_of i ts
  unfolding used_of
  used_kept i here ts =
      sum_map (λ t. cond (t.commitment == rank mine i) t.weight 0) take_of (filter is_mine ts)
      ∙ kept_sum (λ t. t.commitment) (λ t. t.weight) mine i here ts (λ k d lt. refl)

  one_take : (done : List Taken) → All IsApart done → (p : Pair) → MeetsBy p → mine p.commitment ≡ true
      → taken_by (billed_of (kept own rows)) (quantities_of (kept own rows)) (capacities_of (kept mine cs)) (map take_of (filter is_mine done)) (pair_of p) ≡ take_of (taken_by (billed_of rows) (quantities_of rows) (capacities_of cs) done p)
  unfolding taken_by
  one_take done all p meets holds =
      let owns : own p.row ≡ true = sym (apart p.commitment p.row meets) ∙ holds in
      rw (
        kept_number (λ row. unsigned_abs row.billed) own rows p.row meets.charge meets.at_row owns,
        kept_number quantity_of own rows p.row meets.charge meets.at_row owns,
        kept_number (λ c. c.capacity) mine cs p.commitment meets.commitment meets.at_place holds,
        taken_kept p.row owns done all,
        used_kept p.commitment holds done,
      ) refl

  of_pair : (bs qs ks : List ℕ) (done : List Taken) (p : Pair) → mine (taken_by bs qs ks done p).commitment ≡ mine p.commitment
  unfolding taken_by
  of_pair bs qs ks done p = refl

  apart_of : (bs qs ks : List ℕ) (done : List Taken) (p : Pair) → mine p.commitment ≡ own p.row → IsApart (taken_by bs qs ks done p)
  unfolding taken_by
  apart_of bs qs ks done p e = e

  all_takes : (done : List Taken) → All IsApart done → (ps : List Pair) → All MeetsBy ps
      → map take_of (filter is_mine (taken_after (billed_of rows) (quantities_of rows) (capacities_of cs) done ps))
      ≡ taken_after (billed_of (kept own rows)) (quantities_of (kept own rows)) (capacities_of (kept mine cs)) (map take_of (filter is_mine done)) (map pair_of (filter (λ p. mine p.commitment) ps))
  all_takes done all [] meet = refl
  all_takes done all (p ∷ ps) meet =
      let bs : List ℕ = billed_of rows in
      let qs : List ℕ = quantities_of rows in
      let ks : List ℕ = capacities_of cs in
      let bs' : List ℕ = billed_of (kept own rows) in
      let qs' : List ℕ = quantities_of (kept own rows) in
      let ks' : List ℕ = capacities_of (kept mine cs) in
      let t : Taken = taken_by bs qs ks done p in
      let old : List Taken = map take_of (filter is_mine done) in
      let later : List Taken = taken_after bs qs ks (done ++ t ∷ []) ps in
      let some : List Pair = filter (λ q. mine q.commitment) ps in
      let meets : MeetsBy p = All-head MeetsBy p ps meet in
      let named : mine t.commitment ≡ mine p.commitment = of_pair bs qs ks done p in
      let is : IsApart t = apart_of bs qs ks done p (apart p.commitment p.row meets) in
      let rest = all_takes (done ++ t ∷ []) (All-append IsApart done (t ∷ []) all (All-cons IsApart t [] is (All-nil IsApart))) ps (All-tail MeetsBy p ps meet) in
      two_ways (mine p.commitment)
      (λ holds.
      let passes : mine t.commitment ≡ true = named ∙ holds in
      let same : taken_by bs' qs' ks' old (pair_of p) ≡ take_of t = one_take done all p meets holds in
      let grown : map take_of (filter is_mine (done ++ t ∷ [])) ≡ old ++ take_of t ∷ [] =
      ap (map take_of) (filter-append is_mine done (t ∷ []) ∙ ap (λ b. filter is_mine done ++ cond b (t ∷ []) []) passes)
      ∙ map-append take_of (filter is_mine done) (t ∷ []) in
      ap (λ b. map take_of (cond b (t ∷ filter is_mine later) (filter is_mine later))) passes
      ∙ ap (λ l. take_of t ∷ l) (rest ∙ ap (λ l. taken_after bs' qs' ks' l (map pair_of some)) grown)
      ∙ ap (λ x. x ∷ taken_after bs' qs' ks' (old ++ x ∷ []) (map pair_of some)) (sym same)
      ∙ sym (ap (λ b. taken_after bs' qs' ks' old (map pair_of (cond b (p ∷ some) some))) holds))
      (λ fails.
      let misses : mine t.commitment ≡ false = named ∙ fails in
      let grown : map take_of (filter is_mine (done ++ t ∷ [])) ≡ old =
      ap (map take_of) (filter-append is_mine done (t ∷ []) ∙ ap (λ b. filter is_mine done ++ cond b (t ∷ []) []) misses ∙ append-nil (filter is_mine done)) in
      ap (λ b. map take_of (cond b (t ∷ filter is_mine later) (filter is_mine later))) misses
      ∙ rest ∙ ap (λ l. taken_after bs' qs' ks' l (map pair_of some)) grown
      ∙ sym (ap (λ b. taken_after bs' qs' ks' old (map pair_of (cond b (p ∷ some) some))) fails))

  pub cover_kept : hour_cover (kept mine cs) (kept own rows) hour ≡ map (take_to mine own) (filter (λ t. mine t.commitment) (hour_cover cs rows hour))
  unfolding hour_cover cover_of
  cover_kept =
      let bs : List ℕ = billed_of rows in
      let qs : List ℕ = quantities_of rows in
      let ks : List ℕ = capacities_of cs in
      let bs' : List ℕ = billed_of (kept own rows) in
      let qs' : List ℕ = quantities_of (kept own rows) in
      let ks' : List ℕ = capacities_of (kept mine cs) in
      let ps : List Pair = pairs_of cs rows hour in
      let all : List Taken = taken_after bs qs ks [] ps in
      ap (filter takes_something) (all_taken bs' qs' ks' (pairs_of (kept mine cs) (kept own rows) hour)
      ∙ ap (taken_after bs' qs' ks' []) pairs_kept
      ∙ sym (all_takes [] (All-nil IsApart) ps pairs_meet))
      ∙ filter_map_of take_of takes_something (filter is_mine all)
      ∙ ap (map take_of) (filter_swap takes_something is_mine all)
      ∙ ap (λ l. map take_of (filter is_mine (filter takes_something l))) (sym (all_taken bs qs ks ps))

  all_apart : All IsApart (hour_cover cs rows hour)
  all_apart = λ k d lt. let t : Taken = get_or (hour_cover cs rows hour) k d in apart t.commitment t.row (takes_meet cs rows hour k d lt)

  -- ---- of one commitment, and of one row
  of_one : (i : ℕ) → mine i ≡ true → (ts : List Taken) → filter (λ t. rank mine t.commitment == rank mine i) (filter is_mine ts) ≡ filter (λ t. t.commitment == i) ts
  of_one i here [] = refl
  of_one i here (t ∷ ts) =
      let rest = of_one i here ts in
      let q : Taken → Bool = λ u. rank mine u.commitment == rank mine i in
      two_ways (mine t.commitment)
      (λ holds.
      ap (λ b. filter q (cond b (t ∷ filter is_mine ts) (filter is_mine ts))) holds
      ∙ (λ j. cond (rank_same mine t.commitment i holds here j) (t ∷ rest j) (rest j)))
      (λ fails.
      let other : (t.commitment == i) ≡ false = ne_eqb t.commitment i (λ e. let clash : false ≡ true = sym fails ∙ ap mine e ∙ here in absurd (cc)) in
      ap (λ b. filter q (cond b (t ∷ filter is_mine ts) (filter is_mine ts))) fails
      ∙ rest
      ∙ ap (λ b. cond b (t ∷ filter (λ u. u.commitment == i) ts) (filter (λ u. u.commitment == i) ts)) (sym other))

  pub takes_kept : (i : ℕ) → mine i ≡ true → takes_of (rank mine i) (hour_cover (kept mine cs) (kept own rows) hour) ≡ map (take_to mine own) (takes_of i (hour_cover cs rows hour))
  unfolding takes_of
  takes_kept i here =
      ap (filter (λ t. t.commitment == rank mine i)) cover_kept
      ∙ filter_map_of take_of (λ t. t.commitment == rank mine i) (filter is_mine (hour_cover cs rows hour))
      ∙ ap (map take_of) (of_one i here (hour_cover cs rows hour))

  pub unused_kept : (i : ℕ) (c : CommitmentValue) → slice_get cs i ≡ Some c → mine i ≡ true → unused_of (kept mine cs) (hour_cover (kept mine cs) (kept own rows) hour) (rank mine i) ≡ unused_of cs (hour_cover cs rows hour) i
  unfolding unused_of
  unused_kept i c at here =
      let whole : slice_index (capacities_of (kept mine cs)) (rank mine i) ≡ slice_index (capacities_of cs) i = kept_number (λ c. c.capacity) mine cs i c at here in
      let used : used_of (rank mine i) (hour_cover (kept mine cs) (kept own rows) hour) ≡ used_of i (hour_cover cs rows hour) = ap (used_of (rank mine i)) cover_kept ∙ used_kept i here (hour_cover cs rows hour) in
      λ j. whole j - used j

  pub left_kept : (r : ℕ) (row : Charge) → slice_get rows r ≡ Some row → own r ≡ true → left_of (kept own rows) (hour_cover (kept mine cs) (kept own rows) hour) (rank own r) ≡ left_of rows (hour_cover cs rows hour) r
  unfolding left_of
  left_kept r row at here =
      let whole : slice_index (quantities_of (kept own rows)) (rank own r) ≡ slice_index (quantities_of rows) r = kept_number quantity_of own rows r row at here in
      let taken : taken_of_row (rank own r) (hour_cover (kept mine cs) (kept own rows) hour) ≡ taken_of_row r (hour_cover cs rows hour) = ap (taken_of_row (rank own r)) cover_kept ∙ taken_kept r here (hour_cover cs rows hour) all_apart in
      λ j. whole j - taken j
