-- One pair more: two arrays of what is left, changed in place, are what the earlier pairs left.
use Rattle.std.proofs.Common.{◌≡◌, ℕ, ◌+◌, ◌-◌, ◌<◌, ◌==◌, List, [], ◌∷◌, ◌++◌, length, get_or, set, cond, arith, refl, sym, ap, ◌∙◌, filter, ⊎_elim, length-set}
use Rattle.std.proofs.lemmas.List.Sums.{sum_by_push, fold_push}
use Rattle.std.proofs.lemmas.List.Elements.{filter-append}
use Rattle.std.proofs.Common.{◌≢◌, get_or-set_other}
use Rattle.std.proofs.lemmas.Grind.{get_or-set_at}
use Rattle.std.proofs.lemmas.Bool.{cases_eq, eq-eqb, ne_eqb}
use Rattle.fw_cover.specs.Part.{part_of}
use Rattle.std.proofs.Common.{subst, All, Bool, false, sum_by, ◌≤◌}
use Rattle.std.proofs.lemmas.Bool.{ltb-false}
use Rattle.std.proofs.lemmas.List.Sums.{sum_by-cons}
use Rattle.std.proofs.lemmas.List.Elements.{All-append, All-cons, All-nil, All-head, All-tail}
use Rattle.fw_cover.proofs.Sorting.{two_ways}
use Rattle.fw_cover.specs.Cover.{IsPairWithin, IsTakeWithin, taken_of_row, used_of, taken_by, taken_by_all, takes_something}
use Rattle.fw_cover.specs.declared.part.Part.{Part}
use Rattle.fw_cover.specs.declared.pair.Pair.{Pair}
use Rattle.fw_cover.specs.declared.taken.Taken.{Taken}

-- what takes nothing of a row uses nothing of the commitment
abbrev pub IsNothing : Taken → Type 0
IsNothing t = t.quantity ≡ 0 → t.weight ≡ 0

-- the two arrays and the list after the pairs ps
pub record CoveredBy (bs qs ks : List ℕ) (ps : List Pair) (row_left capacity_left : List ℕ) (kept : List Taken) : Type 0 where
  pub rows : length row_left ≡ length qs
  pub commitments : length capacity_left ≡ length ks
  pub row_is : (r : ℕ) → taken_of_row r (taken_by_all bs qs ks ps) + get_or row_left r 0 ≡ get_or qs r 0
  pub capacity_is : (c : ℕ) → used_of c (taken_by_all bs qs ks ps) + get_or capacity_left c 0 ≡ get_or ks c 0
  pub nothing : All IsNothing (taken_by_all bs qs ks ps)
  pub within : All (IsTakeWithin (length ks) (length qs)) (taken_by_all bs qs ks ps)
  pub kept_is : kept ≡ filter takes_something (taken_by_all bs qs ks ps)

pub covered_none : (bs qs ks : List ℕ) → CoveredBy bs qs ks [] qs ks []
unfolding taken_by_all taken_of_row used_of
covered_none bs qs ks = record { rows = refl; commitments = refl; row_is = λ r. omega arith; capacity_is = λ c. omega arith; nothing = All-nil IsNothing; within = All-nil (IsTakeWithin (length ks) (length qs)); kept_is = refl }

abbrev pub taken_at : Pair → Part → Taken
taken_at p part = record { commitment = p.commitment; row = p.row; quantity = part.quantity; weight = part.weight }

-- an array of what is left, after x is taken at place i: the total of f at each place rises by x there alone
less_at : (xs ys : List ℕ) (i x : ℕ) (f g : ℕ → ℕ) → i < length xs → x ≤ get_or xs i 0 → ((r : ℕ) → f r + get_or xs r 0 ≡ get_or ys r 0) → ((r : ℕ) → g r ≡ f r + cond (i == r) x 0) → (r : ℕ) → g r + get_or (set xs i (get_or xs i 0 - x)) r 0 ≡ get_or ys r 0
less_at xs ys i x f g h fits is more r = ⊎_elim
    (λ same. let value : get_or (set xs i (get_or xs i 0 - x)) r 0 ≡ get_or xs i 0 - x = get_or-set_at xs i r _ 0 (sym same) h in
    let one : cond (i == r) x 0 ≡ x = rw (eq-eqb i r same) refl in
    let here : f r + get_or xs i 0 ≡ get_or ys r 0 = rw same (is r) in
    omega (arith, value, one, here, fits, more r))
    (λ other. let ne : r ≢ i = λ e. other (sym e) in
    let none : cond (i == r) x 0 ≡ 0 = rw (ne_eqb i r other) refl in
    let kept : get_or (set xs i (get_or xs i 0 - x)) r 0 ≡ get_or xs r 0 = get_or-set_other xs i r _ 0 ne in
    omega (arith, none, kept, is r, more r))
    (cases_eq i r)

pub covered_more : (bs qs ks : List ℕ) (ps ps' : List Pair) (row_left capacity_left : List ℕ) (kept kept' : List Taken) (p : Pair) (part : Part) (b q u left u' left' : ℕ)
    → IsPairWithin bs qs ks p → CoveredBy bs qs ks ps row_left capacity_left kept → ps' ≡ ps ++ p ∷ []
    → b ≡ get_or bs p.row 0 → q ≡ get_or qs p.row 0 → u ≡ get_or row_left p.row 0 → left ≡ get_or capacity_left p.commitment 0 → u' ≡ get_or row_left p.row 0 → left' ≡ get_or capacity_left p.commitment 0
    → part ≡ part_of p.rate b q u left → part.quantity ≤ u → part.weight ≤ left → (part.quantity ≡ 0 → part.weight ≡ 0) → kept' ≡ kept ++ filter takes_something (taken_at p part ∷ [])
    → CoveredBy bs qs ks ps' (set row_left p.row (u' - part.quantity)) (set capacity_left p.commitment (left' - part.weight)) kept'
unfolding taken_by_all taken_by taken_of_row used_of
covered_more bs qs ks ps ps' row_left capacity_left kept kept' p part b q u left u' left' pair d eps eb eq eu el eu' el' ep fit_row fit_capacity empty ek =
    let hr : p.row < length qs = pair.row in
    let hc : p.commitment < length ks = pair.commitment in
    let done : List Taken = taken_by_all bs qs ks ps in
    let t : Taken = taken_by bs qs ks done p in
    let more : taken_by_all bs qs ks ps' ≡ done ++ t ∷ [] = ap (taken_by_all bs qs ks) eps ∙ fold_push (λ done p. done ++ taken_by bs qs ks done p ∷ []) [] ps p in
    let row_before : u ≡ get_or qs p.row 0 - taken_of_row p.row done = omega (arith, eu, d.row_is p.row) in
    let capacity_before : left ≡ get_or ks p.commitment 0 - used_of p.commitment done = omega (arith, el, d.capacity_is p.commitment) in
    let part_is : part ≡ part_of p.rate (get_or bs p.row 0) (get_or qs p.row 0) (get_or qs p.row 0 - taken_of_row p.row done) (get_or ks p.commitment 0 - used_of p.commitment done) =
    ep ∙ (rw (eb, eq, row_before, capacity_before) refl) in
    let taken_is : taken_at p part ≡ t = ap (λ x. taken_at p x) part_is in
    let rows_more : (r : ℕ) → taken_of_row r (done ++ t ∷ []) ≡ taken_of_row r done + cond (p.row == r) part.quantity 0 =
    λ r. sum_by_push (λ t. cond (t.row == r) t.quantity 0) done t ∙ ap (λ x. taken_of_row r done + cond (p.row == r) x.quantity 0) (sym part_is) in
    let used_more : (c : ℕ) → used_of c (done ++ t ∷ []) ≡ used_of c done + cond (p.commitment == c) part.weight 0 =
    λ c. sum_by_push (λ t. cond (t.commitment == c) t.weight 0) done t ∙ ap (λ x. used_of c done + cond (p.commitment == c) x.weight 0) (sym part_is) in
    let W : Taken → Type 0 = IsTakeWithin (length ks) (length qs) in
    let here : W (taken_at p part) = record { commitment = hc; row = hr; quantity = omega (arith, fit_row, eu, d.row_is p.row, pair.quantity_most); weight = omega (arith, fit_capacity, el, d.capacity_is p.commitment, pair.capacity_most) } in
    record {
      rows = length-set row_left p.row _ ∙ d.rows;
      commitments = length-set capacity_left p.commitment _ ∙ d.commitments;
      row_is = λ r. rw (more, eu') (less_at row_left qs p.row part.quantity (λ r. taken_of_row r done) (λ r. taken_of_row r (done ++ t ∷ [])) (omega (arith, hr, d.rows)) (omega (arith, fit_row, eu)) d.row_is rows_more r);
      capacity_is = λ c. rw (more, el') (less_at capacity_left ks p.commitment part.weight (λ c. used_of c done) (λ c. used_of c (done ++ t ∷ [])) (omega (arith, hc, d.commitments)) (omega (arith, fit_capacity, el)) d.capacity_is used_more c);
      nothing = rw more (All-append IsNothing done (t ∷ []) d.nothing (All-cons IsNothing t [] (subst IsNothing taken_is empty) (All-nil IsNothing)));
      within = rw more (All-append W done (t ∷ []) d.within (All-cons W t [] (subst W taken_is here) (All-nil W)));
      kept_is = ek ∙ (rw (d.kept_is, more, filter-append takes_something done (t ∷ [])) (ap (λ x. filter takes_something done ++ filter takes_something (x ∷ [])) taken_is));
    }

-- ---- what is kept sums up as all does, where what is left out counts nothing
pub sum_kept : {X : Type 0} (p : X → Bool) (f : X → ℕ) (xs : List X) → All (λ x. p x ≡ false → f x ≡ 0) xs → sum_by f (filter p xs) ≡ sum_by f xs
sum_kept p f [] none = refl
sum_kept {X} p f (x ∷ xs) none =
    let Q : X → Type 0 = λ x. p x ≡ false → f x ≡ 0 in
    let rest : sum_by f (filter p xs) ≡ sum_by f xs = sum_kept p f xs (All-tail Q x xs none) in
    let whole = sum_by-cons f x xs in
    let kept = sum_by-cons f x (filter p xs) in
    two_ways (p x) (λ holds. rw holds (omega arith)) (λ fails. let zero_here : f x ≡ 0 = All-head Q x xs none fails in rw fails (omega arith))

nothing_taken : (t : Taken) → takes_something t ≡ false → t.quantity ≡ 0
nothing_taken t fails = omega (arith, ltb-false 0 t.quantity fails)

pub taken_kept : (r : ℕ) (ts : List Taken) → taken_of_row r (filter takes_something ts) ≡ taken_of_row r ts
unfolding taken_of_row
taken_kept r ts = sum_kept takes_something (λ t. cond (t.row == r) t.quantity 0) ts
    (λ k d lt none. let t : Taken = get_or ts k d in two_ways (t.row == r) (λ holds. rw holds (nothing_taken t none)) (λ fails. rw fails refl))

pub used_kept : (c : ℕ) (ts : List Taken) → All IsNothing ts → used_of c (filter takes_something ts) ≡ used_of c ts
unfolding used_of
used_kept c ts all = sum_kept takes_something (λ t. cond (t.commitment == c) t.weight 0) ts
    (λ k d lt none. let t : Taken = get_or ts k d in two_ways (t.commitment == c) (λ holds. rw holds (all k d lt (nothing_taken t none))) (λ fails. rw fails refl))
