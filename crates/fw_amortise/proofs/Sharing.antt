-- The lines of one commitment more.
use Rattle.std.proofs.Common.{◌≡◌, ℕ, ◌+◌, ◌<◌, ◌==◌, Bool, true, false, cond, List, [], ◌∷◌, ◌++◌, take, length, get_or, arith, refl, sym, ap, ◌∙◌, filter, sum_by, All, slice_get, Some, append_assoc}
use Rattle.std.proofs.lemmas.Option.{get_or_from_slice_get}
use Rattle.std.specs.List.{AllZip}
use Rattle.std.specs.List.{flat_map}
use Rattle.std.proofs.lemmas.List.{take_more, get_or-map, append-nil}
use Rattle.std.proofs.lemmas.Grind.{flat_map-append}
use Rattle.std.proofs.lemmas.List.Elements.{All-filter, All-weaker, filter-append}
use Rattle.std.proofs.lemmas.List.Sums.{sum_by-cons}
use Rattle.fw_charge.specs.Charge.{Charge}
use Rattle.fw_terms.specs.Commitment.{CommitmentValue}
use Rattle.fw_cover.specs.declared.taken.Taken.{Taken}
use Rattle.fw_cover.specs.Applies.{is_in_term}
use Rattle.fw_cover.specs.Cover.{IsTakeWithin, used_of}
use Rattle.fw_cover.specs.Hour.{takes_of, unused_of, capacities_of}
use Rattle.fw_amortise.specs.LineValue.{LineValue}
use Rattle.fw_amortise.specs.Lines.{AreLinesAt}
use Rattle.fw_amortise.specs.Adding.{IsTakeOf, AreTakesOf, AddsCommitment, AddsShared}

-- two lists behind two others
AllZip-append : {A B : Type 0} (R : A → B → Type 0) (xs : List A) (ys : List B) (us : List A) (vs : List B) → AllZip R xs ys → AllZip R us vs → AllZip R (xs ++ us) (ys ++ vs)
AllZip-append R [] [] us vs all more = more
AllZip-append R [] (z ∷ ys) us vs all more = absurd all
AllZip-append R (z ∷ xs) [] us vs all more = absurd all
AllZip-append R (w ∷ xs) (z ∷ ys) us vs all more = (all.0, AllZip-append R xs ys us vs all.1 more)

-- the lines of one commitment of an order more, if it runs
pub shared_more : (cs : List CommitmentValue) (rows : List Charge) (taken : List Taken) (hour : ℕ) (xs : List (ℕ × CommitmentValue)) (i : ℕ) (x : ℕ × CommitmentValue) (old all next : List LineValue) → i < length xs → x ≡ get_or xs i x
    → AddsShared cs rows taken hour (filter (λ c. is_in_term c.1 hour) (take i xs)) old all → AddsShared cs rows taken hour (filter (λ c. is_in_term c.1 hour) (x ∷ [])) all next
    → AddsShared cs rows taken hour (filter (λ c. is_in_term c.1 hour) (take (i + 1) xs)) old next
shared_more cs rows taken hour xs i x old all next h ex a b =
    let p = λ (c : ℕ × CommitmentValue). is_in_term c.1 hour in
    let more : take (i + 1) xs ≡ take i xs ++ x ∷ [] = take_more xs i x h ∙ ap (λ y. take i xs ++ y ∷ []) (sym ex) in
    let kept : filter p (take (i + 1) xs) ≡ filter p (take i xs) ++ filter p (x ∷ []) = ap (filter p) more ∙ filter-append p (take i xs) (x ∷ []) in
    record {
      shared = a.shared ++ b.shared;
      are_shared = rw kept (AllZip-append (AreLinesAt cs rows taken hour) (filter p (take i xs)) a.shared (filter p (x ∷ [])) b.shared a.are_shared b.are_shared);
      added = b.added ∙ (rw (a.added, flat_map-append (λ ls. ls) a.shared b.shared) (append_assoc old (flat_map (λ ls. ls) a.shared) (flat_map (λ ls. ls) b.shared)));
    }

-- a commitment whose term doesn't have the hour adds no lines
pub adds_none : (cs : List CommitmentValue) (rows : List Charge) (taken : List Taken) (hour : ℕ) (x : ℕ × CommitmentValue) (lines : List LineValue) → is_in_term x.1 hour ≡ false
    → AddsShared cs rows taken hour (filter (λ c. is_in_term c.1 hour) (x ∷ [])) lines lines
adds_none cs rows taken hour x lines e = rw e (record { shared = []; are_shared = tt; added = sym (append-nil lines) })

-- one whose term has it adds its own
pub adds_own : (cs : List CommitmentValue) (rows : List Charge) (taken : List Taken) (hour : ℕ) (x : ℕ × CommitmentValue) (old new : List LineValue) → is_in_term x.1 hour ≡ true
    → AddsCommitment hour x.1 rows (takes_of x.0 taken) (unused_of cs taken x.0) old new → AddsShared cs rows taken hour (filter (λ c. is_in_term c.1 hour) (x ∷ [])) old new
adds_own cs rows taken hour x old new e a = rw e (record { shared = a.own ∷ []; are_shared = (a.are_lines, tt); added = a.added ∙ ap (λ ls. old ++ ls) (sym (append-nil a.own)) })

-- what the takes of a commitment used
used_is : (place : ℕ) (ts : List Taken) → sum_by (λ t. cond (t.commitment == place) t.weight 0) ts ≡ sum_by (λ t. t.weight) (filter (λ t. t.commitment == place) ts)
used_is place [] = refl
used_is place (t ∷ ts) = sum_by-cons (λ t. cond (t.commitment == place) t.weight 0) t ts ∙ one (t.commitment == place) (used_is place ts)
  where
    one : (same : Bool) → sum_by (λ t. cond (t.commitment == place) t.weight 0) ts ≡ sum_by (λ t. t.weight) (filter (λ t. t.commitment == place) ts) → cond same t.weight 0 + sum_by (λ t. cond (t.commitment == place) t.weight 0) ts ≡ sum_by (λ t. t.weight) (cond same (t ∷ filter (λ t. t.commitment == place) ts) (filter (λ t. t.commitment == place) ts))
    one true e = ap (λ n. t.weight + n) e ∙ sym (sum_by-cons (λ t. t.weight) t (filter (λ t. t.commitment == place) ts))
    one false e = omega (arith, e)

pub sum_by-takes_of : (place : ℕ) (ts : List Taken) → sum_by (λ t. t.weight) (takes_of place ts) ≡ used_of place ts
unfolding takes_of used_of
sum_by-takes_of place ts = sym (used_is place ts)

pub takes_within : (commitments rows place : ℕ) (ts : List Taken) → All (IsTakeWithin commitments rows) ts → AreTakesOf rows (takes_of place ts)
unfolding takes_of
takes_within commitments rows place ts all =
    All-filter (λ t. t.commitment == place) (IsTakeOf rows) ts (All-weaker (IsTakeWithin commitments rows) (IsTakeOf rows) (λ t w. record { row = w.row; quantity = w.quantity }) ts all)

-- the weights of a commitment, and its unused capacity, are its capacity
pub whole_capacity : (cs : List CommitmentValue) (ts : List Taken) (place unused : ℕ) (c : CommitmentValue) → place < length cs → c ≡ get_or cs place c → used_of place ts + unused ≡ get_or (capacities_of cs) place 0 → sum_by (λ t. t.weight) (takes_of place ts) + unused ≡ c.capacity
whole_capacity cs ts place unused c h e sum =
    let here : get_or (capacities_of cs) place 0 ≡ c.capacity = get_or-map (λ c. c.capacity) cs place c 0 h ∙ ap (λ d. d.capacity) (sym e) in
    omega (arith, sum, here, sum_by-takes_of place ts)

pub unused_is : (cs : List CommitmentValue) (ts : List Taken) (place unused : ℕ) → used_of place ts + unused ≡ get_or (capacities_of cs) place 0 → unused ≡ unused_of cs ts place
unfolding unused_of
unused_is cs ts place unused sum = omega (arith, sum)

pub adds_same : (hour : ℕ) (c c' : CommitmentValue) (rows : List Charge) (takes takes' : List Taken) (unused unused' : ℕ) (old new : List LineValue) → c ≡ c' → takes ≡ takes' → unused ≡ unused' → AddsCommitment hour c rows takes unused old new → AddsCommitment hour c' rows takes' unused' old new
adds_same hour c c' rows takes takes' unused unused' old new ec et eu a = rw (← ec, ← et, ← eu) a

pub same_from_place : (cs : List CommitmentValue) (place : ℕ) (c c' : CommitmentValue) → place < length cs → c ≡ get_or cs place c → slice_get cs place ≡ Some c' → c ≡ c'
same_from_place cs place c c' h e s = e ∙ get_or_from_slice_get cs place c' c s
