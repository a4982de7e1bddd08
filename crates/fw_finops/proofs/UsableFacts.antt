-- What rows use of a commitment they could have used.
use Rattle.std.proofs.Common.{◌≡◌, ◌∙◌, ℕ, zero, suc, ◌+◌, ◌-◌, ◌*◌, ◌/◌, ◌<◌, ◌≤◌, ◌==◌, Bool, true, false, cond, filter, fold, nat_le, List, [], ◌∷◌, ◌++◌, Option, None, Some, ap, arith, option_map, refl, subst, sum_by, sym}
use Rattle.std.specs.Prelude.{slice_get, slice_index, unsigned_abs}
use Rattle.std.specs.List.{cons_option, enumerate_from, filter_map, flat_map}
use Rattle.std.proofs.Math.Nat.{div-le_of_le-mul}
use Rattle.std.proofs.lemmas.Bool.{eq-eqb, ne_eqb}
use Rattle.std.proofs.lemmas.Bool.Decides.{nat_tests}
use Rattle.std.proofs.lemmas.List.Sums.{sum_by-append, sum_by-cons}
use Rattle.fw_charge.specs.Charge.{Charge}
use Rattle.fw_terms.specs.Commitment.{CommitmentValue}
use Rattle.fw_cover.specs.Applies.{applied}
use Rattle.fw_cover.specs.Cover.{cover_of, taken_by, taken_by_all, taken_of_row, takes_something, used_of}
use Rattle.fw_cover.specs.Hour.{billed_of, capacities_of, hour_cover, quantities_of, quantity_of}
use Rattle.fw_cover.specs.Order.{commitment_before, commitments_in_order, has_lower_rate, in_order, pair_for, pairs_of, pairs_of_commitment}
use Rattle.fw_cover.specs.Part.{ceil_div, in_proportion, need_of, part_of, spend_part_for}
use Rattle.fw_cover.specs.declared.taken.Taken.{Taken}
use Rattle.fw_cover.proofs.Filling.{number_at}
use Rattle.fw_cover.proofs.Sorting.{two_ways}
use Rattle.fw_amortise.specs.Lines.{rows_in}
use Rattle.fw_amortise.proofs.Carrying.{sum_in_order}
use Rattle.fw_finops.specs.Usable.{usable, usable_of, whole_at, whole_of}

-- ---- a take uses no more than the whole of its row does
pub ceil_rises : (a b : ℕ) → a ≤ b → ceil_div a 1000000 ≤ ceil_div b 1000000
ceil_rises a b h = omega (arith, h)

times_rises : (m n k : ℕ) → m ≤ n → m * k ≤ n * k
times_rises m n k h = grind (arith, h)

part_of_cost : (b q u : ℕ) → u ≤ q → in_proportion b q u ≤ b
part_of_cost b q u h = div-le_of_le-mul q (grind (arith, h))

spend_weighs : (need u left : ℕ) → (spend_part_for need u left).weight ≤ need
spend_weighs need u left = two_ways (need == 0)
    (λ none. rw none (omega arith))
    (λ some. two_ways (nat_le need left)
    (λ fits. rw (some, fits) (omega arith))
    (λ over. two_ways (u * left / need == 0)
    (λ nothing. rw (some, over, nothing) (omega arith))
    (λ part. let less : left ≤ need = grind (arith, nat_tests) in rw (some, over, part) less)))

-- what a pair could use, where its row is billed b and has the quantity q
abbrev most : Option ℕ → ℕ → ℕ → ℕ
most None b q = q
most (Some rate) b q = ceil_div (b * rate) 1000000

part_weighs : (rate : Option ℕ) (b q u left : ℕ) → u ≤ q → (part_of rate b q u left).weight ≤ most rate b q
part_weighs None b q u left h = omega (arith, h)
part_weighs (Some rate) b q u left h =
    let weight = spend_weighs (need_of b q rate u) u left in
    let part = part_of_cost b q u h in
    let need = ceil_rises (in_proportion b q u * rate) (b * rate) (times_rises (in_proportion b q u) b rate part) in
    omega (arith, weight, need)

most_of_row : (row : Charge) (rate : Option ℕ) → most rate (unsigned_abs row.billed) (quantity_of row) ≡ whole_of row rate
most_of_row row None = refl
most_of_row row (Some rate) = refl

-- ---- so do the takes of a commitment together
abbrev weight_at : ℕ → Taken → ℕ
weight_at place t = cond (t.commitment == place) t.weight 0

under_test : (b : Bool) (x y : ℕ) → x ≤ y → cond b x 0 ≤ cond b y 0
under_test true x y h = h
under_test false x y h = omega arith

-- where each step takes no more than its pair could use, all together take no more than all pairs could
steps_weigh : {P : Type 0} (step : List Taken → P → Taken) (f : Taken → ℕ) (g : P → ℕ) → ((done : List Taken) (p : P) → f (step done p) ≤ g p)
    → (done : List Taken) (ps : List P) → sum_by f (fold (λ done p. done ++ step done p ∷ []) done ps) ≤ sum_by f done + sum_by g ps
steps_weigh step f g each done [] = omega arith
steps_weigh step f g each done (p ∷ ps) =
    let t : Taken = step done p in
    let rest = steps_weigh step f g each (done ++ t ∷ []) ps in
    let here = each done p in
    let a = sum_by-append f done (t ∷ []) in
    let b = sum_by-cons f t [] in
    let c = sum_by-cons g p ps in
    omega (arith, rest, here, a, b, c)

fewer : {X : Type 0} (p : X → Bool) (f : X → ℕ) (xs : List X) → sum_by f (filter p xs) ≤ sum_by f xs
fewer p f [] = omega arith
fewer p f (x ∷ xs) =
    let rest = fewer p f xs in
    let whole = sum_by-cons f x xs in
    let kept = sum_by-cons f x (filter p xs) in
    two_ways (p x) (λ holds. rw holds (omega (arith, rest, whole, kept))) (λ fails. rw fails (omega (arith, rest, whole)))

-- ---- the pairs of a commitment could use what its rows could
sum_flat : {X Y : Type 0} (f : X → List Y) (g : Y → ℕ) (xs : List X) → sum_by g (flat_map f xs) ≡ sum_by (λ x. sum_by g (f x)) xs
sum_flat f g [] = refl
sum_flat f g (x ∷ xs) =
    sum_by-append g (f x) (flat_map f xs) ∙ ap (λ n. sum_by g (f x) + n) (sum_flat f g xs) ∙ sym (sum_by-cons (λ x. sum_by g (f x)) x xs)

both_under : (b : Bool) (x y : ℕ) → cond b x 0 + cond b y 0 ≡ cond b (x + y) 0
both_under true x y = refl
both_under false x y = refl

none_under : (b : Bool) → cond {A = ℕ} b 0 0 ≡ 0
none_under true = refl
none_under false = refl

-- one pair, or none
one_more : {P : Type 0} (g : P → ℕ) (pair : Option ℕ → P) (own : Bool) (row : Charge) (o : Option (Option ℕ)) (ps : List P) → ((rate : Option ℕ) → g (pair rate) ≡ cond own (whole_of row rate) 0)
    → sum_by g (cons_option (option_map pair o) ps) ≡ cond own (whole_at row o) 0 + sum_by g ps
one_more g pair own row None ps each = let nothing = none_under own in omega (arith, nothing)
one_more g pair own row (Some rate) ps each = sum_by-cons g (pair rate) ps ∙ ap (λ n. n + sum_by g ps) (each rate)

-- a pair of each row to which a commitment applies
rows_weigh : {P : Type 0} (g : P → ℕ) (pair : ℕ → Option ℕ → P) (own : Bool) (hour n : ℕ) (c : CommitmentValue) (rows : List Charge)
    → ((i : ℕ) (row : Charge) (rate : Option ℕ) → slice_get rows i ≡ Some row → g (pair (n + i) rate) ≡ cond own (whole_of row rate) 0)
    → sum_by g (filter_map (λ r. option_map (pair r.0) (applied c hour r.1)) (enumerate_from n rows)) ≡ cond own (usable_of hour rows c) 0
unfolding usable usable_of
rows_weigh g pair own hour n c [] each = sym (none_under own)
rows_weigh g pair own hour n c (row ∷ rows) each =
    let rest = rows_weigh g pair own hour (n + 1) c rows
    (λ i r rate at. let next : (n + 1) + i ≡ n + suc i = omega arith in ap (λ k. g (pair k rate)) next ∙ each (suc i) r rate at) in
    let here : n ≡ n + 0 = omega arith in
    let first = one_more g (pair n) own row (applied c hour row) (filter_map (λ r. option_map (pair r.0) (applied c hour r.1)) (enumerate_from (n + 1) rows))
    (λ rate. ap (λ k. g (pair k rate)) here ∙ each 0 row rate refl) in
    first ∙ ap (λ m. cond own (whole_at row (applied c hour row)) 0 + m) rest
    ∙ both_under own (whole_at row (applied c hour row)) (sum_by (λ (row : Charge). whole_at row (applied c hour row)) rows)
    ∙ ap (λ m. cond own m 0) (sym (sum_by-cons (λ (row : Charge). whole_at row (applied c hour row)) row rows))

-- ---- one of the commitments is at the place
none_later : (f : CommitmentValue → ℕ) (place n : ℕ) (cs : List CommitmentValue) → place < n → sum_by (λ d. cond (d.0 == place) (f d.1) 0) (enumerate_from n cs) ≡ 0
none_later f place n [] less = refl
none_later f place n (c ∷ cs) less =
    let rest = none_later f place (n + 1) cs (omega (arith, less)) in
    let here : cond (n == place) (f c) 0 ≡ 0 = rw (ne_eqb n place (λ e. omega (arith, e, less))) refl in
    let sum = sum_by-cons (λ (d : ℕ × CommitmentValue). cond (d.0 == place) (f d.1) 0) (n, c) (enumerate_from (n + 1) cs) in
    omega (arith, rest, here, sum)

one_there : (f : CommitmentValue → ℕ) (n i : ℕ) (cs : List CommitmentValue) (c : CommitmentValue) → slice_get cs i ≡ Some c → sum_by (λ d. cond (d.0 == n + i) (f d.1) 0) (enumerate_from n cs) ≡ f c
one_there f n i [] c at = absurd (let e : None ≡ Some c = at in cc)
one_there f n zero (d ∷ cs) c at =
    let is : d ≡ c = (let e : Some d ≡ Some c = at in cc) in
    let rest = none_later f (n + 0) (n + 1) cs (omega arith) in
    let same : n ≡ n + 0 = omega arith in
    let here : cond (n == n + 0) (f d) 0 ≡ f c = (λ j. cond (eq-eqb n (n + 0) same j) (f d) 0) ∙ ap f is in
    let sum = sum_by-cons (λ (e : ℕ × CommitmentValue). cond (e.0 == n + 0) (f e.1) 0) (n, d) (enumerate_from (n + 1) cs) in
    omega (arith, rest, here, sum)
one_there f n (suc i) (d ∷ cs) c at =
    let next : (n + 1) + i ≡ n + suc i = omega arith in
    let rest = subst (λ p. sum_by (λ (d : ℕ × CommitmentValue). cond (d.0 == p) (f d.1) 0) (enumerate_from (n + 1) cs) ≡ f c) next (one_there f (n + 1) i cs c at) in
    let here : cond (n == n + suc i) (f d) 0 ≡ 0 = rw (ne_eqb n (n + suc i) (λ e. omega (arith, e))) refl in
    let sum = sum_by-cons (λ (e : ℕ × CommitmentValue). cond (e.0 == n + suc i) (f e.1) 0) (n, d) (enumerate_from (n + 1) cs) in
    omega (arith, rest, here, sum)

-- what is used of the commitment at a place, where a step is what a pair takes, and each pair of a commitment is known by its row and rate
used_by : {P : Type 0} (step : List Taken → P → Taken) (g : P → ℕ) (pair : ℕ → ℕ → Option ℕ → P) (before : P → P → Bool) (cs : List CommitmentValue) (rows : List Charge) (hour place : ℕ) (c : CommitmentValue)
    → slice_get cs place ≡ Some c → ((done : List Taken) (p : P) → weight_at place (step done p) ≤ g p)
    → ((k i : ℕ) (row : Charge) (rate : Option ℕ) → slice_get rows i ≡ Some row → g (pair k i rate) ≡ cond (k == place) (whole_of row rate) 0)
    → sum_by (weight_at place) (filter takes_something (fold (λ done p. done ++ step done p ∷ []) [] (flat_map (λ d. in_order before (filter_map (λ r. option_map (pair d.0 r.0) (applied d.1 hour r.1)) (enumerate_from 0 rows))) (in_order commitment_before (enumerate_from 0 cs))))) ≤ usable_of hour rows c
used_by step g pair before cs rows hour place c at each known =
    let mine = λ (d : ℕ × CommitmentValue). in_order before (filter_map (λ (r : ℕ × Charge). option_map (pair d.0 r.0) (applied d.1 hour r.1)) (enumerate_from 0 rows)) in
    let pairs = flat_map mine (in_order commitment_before (enumerate_from 0 cs)) in
    let few = fewer takes_something (weight_at place) (fold (λ done p. done ++ step done p ∷ []) [] pairs) in
    let all = steps_weigh step (weight_at place) g each [] pairs in
    let one : (d : ℕ × CommitmentValue) → sum_by g (mine d) ≡ cond (d.0 == place) (usable_of hour rows d.1) 0 =
    λ d. sum_in_order before g (filter_map (λ (r : ℕ × Charge). option_map (pair d.0 r.0) (applied d.1 hour r.1)) (enumerate_from 0 rows))
    ∙ rows_weigh g (pair d.0) (d.0 == place) hour 0 d.1 rows (λ i row rate at. let here : 0 + i ≡ i = omega arith in ap (λ k. g (pair d.0 k rate)) here ∙ known d.0 i row rate at) in
    let zero_plus : 0 + place ≡ place = omega arith in
    let whole : sum_by g pairs ≡ usable_of hour rows c =
    sum_flat mine g (in_order commitment_before (enumerate_from 0 cs))
    ∙ sum_in_order commitment_before (λ d. sum_by g (mine d)) (enumerate_from 0 cs)
    ∙ (λ j. sum_by (λ d. one d j) (enumerate_from 0 cs))
    ∙ ap (λ p. sum_by (λ (d : ℕ × CommitmentValue). cond (d.0 == p) (usable_of hour rows d.1) 0) (enumerate_from 0 cs)) (sym zero_plus)
    ∙ one_there (usable_of hour rows) 0 place cs c at in
    omega (arith, few, all, whole)

pub used_in_hour : (cs : List CommitmentValue) (rows : List Charge) (hour place : ℕ) (c : CommitmentValue) → slice_get cs place ≡ Some c → used_of place (hour_cover cs rows hour) ≤ usable_of hour rows c
unfolding hour_cover cover_of taken_by_all used_of pairs_of pairs_of_commitment commitments_in_order pair_for taken_by
used_in_hour cs rows hour place c at =
    let bs : List ℕ = billed_of rows in
    let qs : List ℕ = quantities_of rows in
    let ks : List ℕ = capacities_of cs in
    used_by (taken_by bs qs ks) (λ p. cond (p.commitment == place) (most p.rate (slice_index bs p.row) (slice_index qs p.row)) 0) (λ k i rate. record { commitment = k; row = i; rate = rate }) has_lower_rate cs rows hour place c at
    (λ done p. under_test (p.commitment == place) _ _
    (part_weighs p.rate (slice_index bs p.row) (slice_index qs p.row) (slice_index qs p.row - taken_of_row p.row done) (slice_index ks p.commitment - used_of p.commitment done) (omega arith)))
    (λ k i row rate at. ap (λ m. cond (k == place) m 0)
    ((λ j. most rate (number_at (λ (row : Charge). unsigned_abs row.billed) rows i row at j) (number_at quantity_of rows i row at j)) ∙ most_of_row row rate))

-- ---- over hours
pub used_in_hours : (cs : List CommitmentValue) (rows : List Charge) (place : ℕ) (c : CommitmentValue) (hours : List ℕ) → slice_get cs place ≡ Some c
    → sum_by (λ h. used_of place (hour_cover cs (rows_in h rows) h)) hours ≤ sum_by (λ h. usable_of h (rows_in h rows) c) hours
used_in_hours cs rows place c [] at = omega arith
used_in_hours cs rows place c (hour ∷ hours) at =
    let rest = used_in_hours cs rows place c hours at in
    let here = used_in_hour cs (rows_in hour rows) hour place c at in
    let a = sum_by-cons (λ h. used_of place (hour_cover cs (rows_in h rows) h)) hour hours in
    let b = sum_by-cons (λ h. usable_of h (rows_in h rows) c) hour hours in
    omega (arith, rest, here, a, b)
