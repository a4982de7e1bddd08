-- The used and unused lines of a commitment carry its amounts.
use Rattle.std.proofs.Common.{◌≡◌, ℕ, zero, suc, ◌+◌, ◌-◌, ◌<◌, ◌≤◌, ℤ, pos, ◌+ℤ◌, Bool, true, false, ◌&&◌, cond, nat_lt, List, [], ◌∷◌, ◌++◌, length, get_or, map, filter, fold, sum, sum_by, drop, nat_le, add-zero, arith, refl, sym, ap, ◌∙◌}
use Rattle.std.specs.List.{AllZip, flat_map, enumerate_from, zip, range_with_len}
use Rattle.std.specs.Str.{bytes_eq}
use Rattle.std.proofs.lemmas.Bool.Decides.{nat_tests}
use Rattle.std.proofs.lemmas.Int.{ints}
use Rattle.std.proofs.lemmas.List.{map-append}
use Rattle.std.proofs.lemmas.List.Elements.{filter-append}
use Rattle.std.proofs.lemmas.List.Sums.{fold-append, sum_by-cons}
use Rattle.fw_charge.specs.Charge.{Charge}
use Rattle.fw_terms.specs.Commitment.{CommitmentValue, cost_of}
use Rattle.fw_cover.specs.declared.taken.Taken.{Taken}
use Rattle.fw_cover.specs.Eligible.{is_eligible}
use Rattle.fw_cover.specs.Applies.{is_in_term}
use Rattle.fw_cover.specs.Order.{insert_by, in_order, commitment_before, commitments_in_order}
use Rattle.fw_cover.specs.Hour.{hour_cover, takes_of, unused_of, left_of}
use Rattle.fw_cover.proofs.Left.{sum_kept}
use Rattle.fw_amortise.specs.LineValue.{LineValue}
use Rattle.fw_amortise.specs.Lines.{purchase_line, purchase_lines_of, purchase_lines, given_line, given_lines, used_line, unused_line, shared_lines, rest_line, rest_of, rest_lines, amount_in, AreLinesAt, AreHourLines, AreLines, rows_in, running}
use Rattle.fw_amortise.specs.Carrying.{is_share_of, cost_of_all, carried, IsOnly}
use Rattle.fw_amortise.specs.Amount.{amount_of}
use Rattle.fw_amortise.proofs.Carried.{amounts_sum}
use Rattle.fw_amortise.proofs.Weights.{length-weights_of}

-- ---- sums of lists of lines
add_assoc_ℤ : (a b c : ℤ) → (a +ℤ b) +ℤ c ≡ a +ℤ (b +ℤ c)
add_assoc_ℤ a b c = omega (arith, ints)

zero_add_ℤ : (a : ℤ) → pos 0 +ℤ a ≡ a
zero_add_ℤ a = omega (arith, ints)

pub fold_from : (a : ℤ) (zs : List ℤ) → fold ◌+ℤ◌ a zs ≡ a +ℤ fold ◌+ℤ◌ (pos 0) zs
fold_from a [] = omega (arith, ints)
fold_from a (z ∷ zs) =
    fold_from (a +ℤ z) zs ∙ (add_assoc_ℤ a z (fold ◌+ℤ◌ (pos 0) zs) ∙ ap (λ x. a +ℤ x) (sym (fold_from (pos 0 +ℤ z) zs ∙ ap (λ x. x +ℤ fold ◌+ℤ◌ (pos 0) zs) (zero_add_ℤ z))))

pub carried-append : (id : List ℕ) (xs ys : List LineValue) → carried id (xs ++ ys) ≡ carried id xs +ℤ carried id ys
unfolding carried cost_of_all
carried-append id xs ys =
    ap (λ ls. fold ◌+ℤ◌ (pos 0) (map (λ (line : LineValue). line.effective) ls)) (filter-append (is_share_of id) xs ys)
    ∙ (ap (fold ◌+ℤ◌ (pos 0)) (map-append (λ (line : LineValue). line.effective) (filter (is_share_of id) xs) (filter (is_share_of id) ys))
    ∙ (fold-append ◌+ℤ◌ (pos 0) (map (λ line. line.effective) (filter (is_share_of id) xs)) (map (λ line. line.effective) (filter (is_share_of id) ys))
    ∙ fold_from (fold ◌+ℤ◌ (pos 0) (map (λ line. line.effective) (filter (is_share_of id) xs))) (map (λ line. line.effective) (filter (is_share_of id) ys))))

carried-one : (id : List ℕ) (line : LineValue) (rest : List LineValue) → carried id (line ∷ rest) ≡ cond (is_share_of id line) line.effective (pos 0) +ℤ carried id rest
unfolding carried cost_of_all
carried-one id line rest = by_test (is_share_of id line)
  where
    by_test : (test : Bool) → fold ◌+ℤ◌ (pos 0) (map (λ (l : LineValue). l.effective) (cond test (line ∷ filter (is_share_of id) rest) (filter (is_share_of id) rest))) ≡ cond test line.effective (pos 0) +ℤ fold ◌+ℤ◌ (pos 0) (map (λ l. l.effective) (filter (is_share_of id) rest))
    by_test true = ap (λ z. fold ◌+ℤ◌ z (map (λ (l : LineValue). l.effective) (filter (is_share_of id) rest))) (zero_add_ℤ line.effective) ∙ fold_from line.effective (map (λ (l : LineValue). l.effective) (filter (is_share_of id) rest))
    by_test false = sym (zero_add_ℤ (fold ◌+ℤ◌ (pos 0) (map (λ (l : LineValue). l.effective) (filter (is_share_of id) rest))))

pub carried-nil : (id : List ℕ) → carried id [] ≡ pos 0
unfolding carried cost_of_all
carried-nil id = refl

-- ---- lines that carry no share
none_append : (id : List ℕ) (xs ys : List LineValue) → carried id xs ≡ pos 0 → carried id ys ≡ pos 0 → carried id (xs ++ ys) ≡ pos 0
none_append id xs ys a b = carried-append id xs ys ∙ (rw (a, b) refl)

none_mapped : {X : Type 0} (id : List ℕ) (f : X → LineValue) → ((x : X) → is_share_of id (f x) ≡ false) → (xs : List X) → carried id (map f xs) ≡ pos 0
none_mapped id f none [] = carried-nil id
none_mapped id f none (x ∷ xs) = carried-one id (f x) (map f xs) ∙ (rw (none x, none_mapped id f none xs) refl)

none_flat : {X : Type 0} (id : List ℕ) (f : X → List LineValue) → ((x : X) → carried id (f x) ≡ pos 0) → (xs : List X) → carried id (flat_map f xs) ≡ pos 0
none_flat id f none [] = carried-nil id
none_flat id f none (x ∷ xs) = none_append id (f x) (flat_map f xs) (none x) (none_flat id f none xs)

purchases_none : (id : List ℕ) (cs : List CommitmentValue) (hour : ℕ) → carried id (purchase_lines cs hour) ≡ pos 0
unfolding purchase_lines purchase_lines_of purchase_line is_share_of
purchases_none id cs hour = none_flat id (purchase_lines_of hour) (λ c. none_mapped id (purchase_line hour c) (λ p. refl) _) cs

given_none : (id : List ℕ) (rows : List Charge) (hour : ℕ) → carried id (given_lines rows hour) ≡ pos 0
unfolding given_lines given_line is_share_of
given_none id rows hour = none_mapped id (given_line hour) (λ r. refl) _

rest_none : (id : List ℕ) (test : Bool) (hour : ℕ) (row : Charge) (u : ℕ) → carried id (cond test (rest_line hour row u ∷ []) []) ≡ pos 0
unfolding rest_line is_share_of
rest_none id true hour row u = carried-one id (rest_line hour row u) [] ∙ (rw (carried-nil id) refl)
rest_none id false hour row u = carried-nil id

rests_none : (id : List ℕ) (rows : List Charge) (taken : List Taken) (hour : ℕ) → carried id (rest_lines rows taken hour) ≡ pos 0
unfolding rest_lines rest_of
rests_none id rows taken hour = none_flat id (λ r. rest_of hour r.1 (left_of rows taken r.0)) (λ r. rest_none id (is_eligible r.1 && nat_lt 0 (left_of rows taken r.0)) hour r.1 (left_of rows taken r.0)) (enumerate_from 0 rows)

-- ---- the lines of one commitment
own : Bool → ℕ → ℤ
own same n = cond same (pos n) (pos 0)

own_add : (same : Bool) (a b : ℕ) → own same a +ℤ own same b ≡ own same (a + b)
unfolding own
own_add true a b = refl
own_add false a b = refl

used_lines : (id : List ℕ) (hour : ℕ) (c : CommitmentValue) (rows : List Charge) (ts : List Taken) (s : List ℕ) → length ts ≤ length s → carried id (map (λ p. used_line hour c rows p.0 p.1) (zip ts s)) +ℤ own (bytes_eq c.id id) (sum (drop (length ts) s)) ≡ own (bytes_eq c.id id) (sum s)
unfolding used_line is_share_of own
used_lines id hour c rows [] s h = rw (carried-nil id) (zero_add_ℤ _)
used_lines id hour c rows (t ∷ ts) [] h = absurd (omega arith)
used_lines id hour c rows (t ∷ ts) (x ∷ s) h =
    let rest = used_lines id hour c rows ts s (omega arith) in
    rw (carried-one id (used_line hour c rows t x) (map (λ p. used_line hour c rows p.0 p.1) (zip ts s)), add_assoc_ℤ, rest)
    (own_add (bytes_eq c.id id) x (sum s) ∙ ap (own (bytes_eq c.id id)) (sym (sum_by-cons (λ n. n) x s)))

unused_lines : (id : List ℕ) (hour : ℕ) (c : CommitmentValue) (s : List ℕ) → carried id (map (unused_line hour c) s) ≡ own (bytes_eq c.id id) (sum s)
unfolding unused_line is_share_of own
unused_lines id hour c [] = carried-nil id ∙ nothing (bytes_eq c.id id)
  where
    nothing : (same : Bool) → pos 0 ≡ own same 0
    nothing true = refl
    nothing false = refl
unused_lines id hour c (x ∷ s) =
    rw (carried-one id (unused_line hour c x) (map (unused_line hour c) s), unused_lines id hour c s)
    (own_add (bytes_eq c.id id) x (sum s) ∙ ap (own (bytes_eq c.id id)) (sym (sum_by-cons (λ n. n) x s)))

shared_lines_carry : (id : List ℕ) (hour : ℕ) (c : CommitmentValue) (rows : List Charge) (ts : List Taken) (s : List ℕ) → length ts ≤ length s → carried id (shared_lines hour c rows ts s) ≡ own (bytes_eq c.id id) (sum s)
unfolding shared_lines
shared_lines_carry id hour c rows ts s h =
    carried-append id (map (λ p. used_line hour c rows p.0 p.1) (zip ts s)) (map (unused_line hour c) (drop (length ts) s))
    ∙ (rw (unused_lines id hour c (drop (length ts) s)) (used_lines id hour c rows ts s h))

-- ---- the lines of the commitments that run
own_is : (same : Bool) (n : ℕ) → own same n ≡ pos (cond same n 0)
unfolding own
own_is true n = refl
own_is false n = refl

pos_add : (a b : ℕ) → pos a +ℤ pos b ≡ pos (a + b)
pos_add a b = refl

commitment_carries : (id : List ℕ) (cs : List CommitmentValue) (rows : List Charge) (taken : List Taken) (hour : ℕ) (c : ℕ × CommitmentValue) (ls : List LineValue) → AreLinesAt cs rows taken hour c ls → carried id ls ≡ pos (cond (bytes_eq c.1.id id) (amount_in c.1 hour) 0)
commitment_carries id cs rows taken hour c ls a =
    let enough : length (takes_of c.0 taken) ≤ length a.shares = omega (arith, a.are_shares.one_each, length-weights_of (takes_of c.0 taken) (unused_of cs taken c.0)) in
    ap (carried id) a.are_lines ∙ (shared_lines_carry id hour c.1 rows (takes_of c.0 taken) a.shares enough ∙ (ap (own (bytes_eq c.1.id id)) a.are_shares.whole ∙ own_is (bytes_eq c.1.id id) (amount_in c.1 hour)))

running_carry : (id : List ℕ) (cs : List CommitmentValue) (rows : List Charge) (taken : List Taken) (hour : ℕ) (some : List (ℕ × CommitmentValue)) (shared : List (List LineValue)) → AllZip (AreLinesAt cs rows taken hour) some shared → carried id (flat_map (λ ls. ls) shared) ≡ pos (sum_by (λ c. cond (bytes_eq c.1.id id) (amount_in c.1 hour) 0) some)
running_carry id cs rows taken hour [] [] a = carried-nil id
running_carry id cs rows taken hour [] (ls ∷ shared) a = absurd a
running_carry id cs rows taken hour (c ∷ some) [] a = absurd a
running_carry id cs rows taken hour (c ∷ some) (ls ∷ shared) a =
    carried-append id ls (flat_map (λ ls. ls) shared)
    ∙ (rw (commitment_carries id cs rows taken hour c ls a.0, running_carry id cs rows taken hour some shared a.1, sum_by-cons (λ c. cond (bytes_eq c.1.id id) (amount_in c.1 hour) 0) c some)
    (pos_add _ _))

-- ---- sums over the commitments
sum_insert : {X : Type 0} (before : X → X → Bool) (f : X → ℕ) (x : X) (ys : List X) → sum_by f (insert_by before x ys) ≡ f x + sum_by f ys
sum_insert before f x [] = sum_by-cons f x []
sum_insert before f x (y ∷ ys) = by_test (before y x) (sum_insert before f x ys)
  where
    by_test : (test : Bool) → sum_by f (insert_by before x ys) ≡ f x + sum_by f ys → sum_by f (cond test (y ∷ insert_by before x ys) (x ∷ (y ∷ ys))) ≡ f x + sum_by f (y ∷ ys)
    by_test true ih = sum_by-cons f y (insert_by before x ys) ∙ omega (arith, ih, sum_by-cons f y ys)
    by_test false ih = sum_by-cons f x (y ∷ ys)

pub sum_in_order : {X : Type 0} (before : X → X → Bool) (f : X → ℕ) (xs : List X) → sum_by f (in_order before xs) ≡ sum_by f xs
sum_in_order before f [] = refl
sum_in_order before f (x ∷ xs) = sum_insert before f x (in_order before xs) ∙ (ap (λ n. f x + n) (sum_in_order before f xs) ∙ sym (sum_by-cons f x xs))

sum_placed : {X : Type 0} (f : X → ℕ) (n : ℕ) (xs : List X) → sum_by (λ x. f x.1) (enumerate_from n xs) ≡ sum_by f xs
sum_placed f n [] = refl
sum_placed f n (x ∷ xs) = sum_by-cons (λ x. f x.1) (n, x) (enumerate_from (n + 1) xs) ∙ (ap (λ m. f x + m) (sum_placed f (n + 1) xs) ∙ sym (sum_by-cons f x xs))

sum_chosen : {X : Type 0} (p : X → Bool) (f : X → ℕ) (xs : List X) → sum_by (λ x. cond (p x) (f x) 0) xs ≡ sum_by f (filter p xs)
sum_chosen p f [] = refl
sum_chosen p f (x ∷ xs) = sum_by-cons (λ x. cond (p x) (f x) 0) x xs ∙ by_test (p x) (sum_chosen p f xs)
  where
    by_test : (test : Bool) → sum_by (λ x. cond (p x) (f x) 0) xs ≡ sum_by f (filter p xs) → cond test (f x) 0 + sum_by (λ x. cond (p x) (f x) 0) xs ≡ sum_by f (cond test (x ∷ filter p xs) (filter p xs))
    by_test true ih = ap (λ n. f x + n) ih ∙ sym (sum_by-cons f x (filter p xs))
    by_test false ih = omega (arith, ih)

-- outside its term a commitment carries nothing
idle : (id : List ℕ) (hour : ℕ) (c : CommitmentValue) → is_in_term c hour ≡ false → cond (bytes_eq c.id id) (amount_in c hour) 0 ≡ 0
unfolding amount_in
idle id hour c e = rw e (either (bytes_eq c.id id))
  where
    either : (same : Bool) → cond {A = ℕ} same 0 0 ≡ 0
    either true = refl
    either false = refl

amounts_of_id : (id : List ℕ) (cs : List CommitmentValue) (hour : ℕ) → sum_by (λ c. cond (bytes_eq c.1.id id) (amount_in c.1 hour) 0) (running cs hour) ≡ sum_by (λ c. amount_in c hour) (filter (λ c. bytes_eq c.id id) cs)
unfolding running commitments_in_order
amounts_of_id id cs hour =
    let f : CommitmentValue → ℕ = λ c. cond (bytes_eq c.id id) (amount_in c hour) 0 in
    sum_kept (λ c. is_in_term c.1 hour) (λ c. f c.1) (in_order commitment_before (enumerate_from 0 cs)) (λ k d l e. idle id hour (get_or (in_order commitment_before (enumerate_from 0 cs)) k d).1 e)
    ∙ (sum_in_order commitment_before (λ c. f c.1) (enumerate_from 0 cs) ∙ (sum_placed f 0 cs ∙ sum_chosen (λ c. bytes_eq c.id id) (λ c. amount_in c hour) cs))

hour_carries : (id : List ℕ) (cs : List CommitmentValue) (rows : List Charge) (hour : ℕ) (lines : List LineValue) → AreHourLines cs rows hour lines → carried id lines ≡ pos (sum_by (λ c. amount_in c hour) (filter (λ c. bytes_eq c.id id) cs))
hour_carries id cs rows hour lines a =
    let taken : List Taken = hour_cover cs rows hour in
    let first : carried id (purchase_lines cs hour ++ given_lines rows hour) ≡ pos 0 = none_append id (purchase_lines cs hour) (given_lines rows hour) (purchases_none id cs hour) (given_none id rows hour) in
    let shared : carried id (flat_map (λ ls. ls) a.shared) ≡ pos (sum_by (λ c. amount_in c hour) (filter (λ c. bytes_eq c.id id) cs)) =
    running_carry id cs rows taken hour (running cs hour) a.shared a.are_shared ∙ ap pos (amounts_of_id id cs hour) in
    ap (carried id) a.are_lines
    ∙ (carried-append id (purchase_lines cs hour ++ given_lines rows hour ++ flat_map (λ ls. ls) a.shared) (rest_lines rows taken hour)
    ∙ (rw (rests_none id rows taken hour, carried-append id (purchase_lines cs hour ++ given_lines rows hour) (flat_map (λ ls. ls) a.shared), first, shared) (middle (sum_by (λ c. amount_in c hour) (filter (λ c. bytes_eq c.id id) cs)))))
  where
    middle : (n : ℕ) → (pos 0 +ℤ pos n) +ℤ pos 0 ≡ pos n
    middle n = omega (arith, ints)

pub carried_amount : (cs : List CommitmentValue) (rows : List Charge) (hour : ℕ) (lines : List LineValue) (c : CommitmentValue) → AreLines cs rows hour lines → IsOnly cs c → carried c.id lines ≡ pos (amount_in c hour)
unfolding AreLines IsOnly
carried_amount cs rows hour lines c a only =
    hour_carries c.id cs (rows_in hour rows) hour lines a
    ∙ ap pos (ap (sum_by (λ d. amount_in d hour)) only ∙ (sum_by-cons (λ d. amount_in d hour) c [] ∙ add-zero (amount_in c hour)))

-- ---- over the term
add_up : (a b n : ℕ) → n ≡ a + b → (pos 0 +ℤ pos a) +ℤ pos b ≡ pos n
add_up a b n e = rw e (omega (arith, ints))

fold_range : (z : ℕ → ℤ) (g : ℕ → ℕ) (a n : ℕ) → ((k : ℕ) → a ≤ k → k < a + n → z k ≡ pos (g k)) → fold ◌+ℤ◌ (pos 0) (map z (range_with_len a n)) ≡ pos (sum_by g (range_with_len a n))
fold_range z g a zero each = refl
fold_range z g a (suc n) each =
    let here : z a ≡ pos (g a) = each a (omega arith) (omega arith) in
    let rest : fold ◌+ℤ◌ (pos 0) (map z (range_with_len (a + 1) n)) ≡ pos (sum_by g (range_with_len (a + 1) n)) = fold_range z g (a + 1) n (λ k low high. each k (omega arith) (omega arith)) in
    fold_from (pos 0 +ℤ z a) (map z (range_with_len (a + 1) n))
    ∙ (rw (rest, here) (add_up (g a) (sum_by g (range_with_len (a + 1) n)) (sum_by g (range_with_len a (suc n))) (sum_by-cons g a (range_with_len (a + 1) n))))

pub amount_at : (c : CommitmentValue) (k : ℕ) → k < c.hours → amount_in c (c.start + k) ≡ amount_of (cost_of c.purchases) c.hours k
unfolding amount_in is_in_term
amount_at c k h =
    let runs : (nat_le c.start (c.start + k) && nat_lt (c.start + k) (c.start + c.hours)) ≡ true = grind (arith, nat_tests) in
    let since : c.start + k - c.start ≡ k = omega arith in
    rw (runs, since) refl

pub carried_purchases : (cs : List CommitmentValue) (rows : List Charge) (lines : ℕ → List LineValue) (c : CommitmentValue) → 0 < c.hours → ((k : ℕ) → k < c.hours → AreLines cs rows (c.start + k) (lines k)) → IsOnly cs c → fold ◌+ℤ◌ (pos 0) (map (λ k. carried c.id (lines k)) (range_with_len 0 c.hours)) ≡ pos (cost_of c.purchases)
carried_purchases cs rows lines c some each only =
    fold_range (λ k. carried c.id (lines k)) (amount_of (cost_of c.purchases) c.hours) 0 c.hours
    (λ k low high. let inside : k < c.hours = omega arith in carried_amount cs rows (c.start + k) (lines k) c (each k inside) only ∙ ap pos (amount_at c k inside))
    ∙ ap pos (amounts_sum (cost_of c.purchases) c.hours some)
