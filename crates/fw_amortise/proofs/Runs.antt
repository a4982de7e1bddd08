-- What the commitments took stands commitment by commitment: a run for each, in their order.
use Rattle.std.proofs.Common.{◌≡◌, ℕ, zero, suc, ◌+◌, ◌<◌, ◌==◌, Bool, true, false, List, [], ◌∷◌, ◌++◌, take, drop, length, get_or, filter, All, arith, refl, sym, ap, ◌∙◌}
use Rattle.std.specs.List.{flat_map, prefix_len}
use Rattle.std.proofs.lemmas.Bool.{eqb-true}
use Rattle.std.proofs.lemmas.List.{take_at, drop_at}
use Rattle.std.proofs.lemmas.List.Elements.{All-head, filter_passes, All-tail}
use Rattle.fw_terms.specs.Commitment.{CommitmentValue}
use Rattle.fw_cover.specs.declared.taken.Taken.{Taken}
use Rattle.fw_cover.specs.Hour.{takes_of}
use Rattle.fw_cover.proofs.Grouping.{PlacesApart}
use Rattle.fw_cover.proofs.Within.{all_flat_map}

-- the takes of these commitments, one commitment after another
abbrev pub takes_of_all : List Taken → List (ℕ × CommitmentValue) → List Taken
takes_of_all taken cs = flat_map (λ c. takes_of c.0 taken) cs

none_len : {X : Type 0} (p : X → Bool) (xs : List X) → All (λ x. p x ≡ false) xs → prefix_len p xs ≡ 0
none_len p [] all = refl
none_len {X} p (x ∷ xs) all = let P : X → Type 0 = λ x. p x ≡ false in rw (All-head P x xs all) refl

run_len : {X : Type 0} (p : X → Bool) (xs ys : List X) → All (λ x. p x ≡ true) xs → prefix_len p ys ≡ 0 → prefix_len p (xs ++ ys) ≡ length xs
run_len p [] ys all none = none
run_len {X} p (x ∷ xs) ys all none = let P : X → Type 0 = λ x. p x ≡ true in
    let rest : prefix_len p (xs ++ ys) ≡ length xs = run_len p xs ys (All-tail P x xs all) none in
    rw (All-head P x xs all) (omega (arith, rest))

-- what other commitments took isn't of this one
other_takes : (taken : List Taken) (place other : ℕ) → (other == place) ≡ false → All (λ t. (t.commitment == place) ≡ false) (takes_of other taken)
unfolding takes_of
other_takes taken place other apart k d lt =
    let here : (get_or (filter (λ t. t.commitment == other) taken) k d).commitment ≡ other =
    eqb-true _ other (filter_passes (λ (t : Taken). t.commitment == other) taken k d lt) in
    ap (λ n. n == place) here ∙ apart

others_none : (taken : List Taken) (place : ℕ) (cs : List (ℕ × CommitmentValue)) → All (λ c. (c.0 == place) ≡ false) cs → prefix_len (λ t. t.commitment == place) (takes_of_all taken cs) ≡ 0
others_none taken place cs apart =
    none_len (λ t. t.commitment == place) (takes_of_all taken cs)
    (all_flat_map (λ t. (t.commitment == place) ≡ false) (λ c. takes_of c.0 taken) cs (λ k d lt. other_takes taken place (get_or cs k d).0 (apart k d lt)))

own_takes : (taken : List Taken) (place : ℕ) → All (λ t. (t.commitment == place) ≡ true) (takes_of place taken)
unfolding takes_of
own_takes taken place = filter_passes (λ t. t.commitment == place) taken

-- the first run is what the first commitment took, and behind it stands what the others took
pub record IsRun (taken left : List Taken) (place : ℕ) (later : List (ℕ × CommitmentValue)) : Type 0 where
  pub run : take (prefix_len (λ t. t.commitment == place) left) left ≡ takes_of place taken
  pub rest : drop (prefix_len (λ t. t.commitment == place) left) left ≡ takes_of_all taken later

first_run : (taken : List Taken) (c : ℕ × CommitmentValue) (later : List (ℕ × CommitmentValue)) → All (λ d. (d.0 == c.0) ≡ false) later → IsRun taken (takes_of c.0 taken ++ takes_of_all taken later) c.0 later
first_run taken c later apart =
    let len : prefix_len (λ t. t.commitment == c.0) (takes_of c.0 taken ++ takes_of_all taken later) ≡ length (takes_of c.0 taken) =
    run_len (λ t. t.commitment == c.0) (takes_of c.0 taken) (takes_of_all taken later) (own_takes taken c.0) (others_none taken c.0 later apart) in
    record {
      run = take_at (takes_of c.0 taken) (takes_of_all taken later) _ (sym len);
      rest = drop_at (takes_of c.0 taken) (takes_of_all taken later) _ (sym len);
    }

pub next_run : (taken : List Taken) (order : List (ℕ × CommitmentValue)) (i : ℕ) (x : ℕ × CommitmentValue) (left : List Taken) → PlacesApart order → i < length order → x ≡ get_or order i x
    → left ≡ takes_of_all taken (drop i order) → IsRun taken left x.0 (drop (i + 1) order)
next_run taken [] i x left apart lt ex e = absurd (omega (arith, lt))
next_run taken (o ∷ order) zero x left apart lt ex e = rw (e, ex) (first_run taken o order apart.0)
next_run taken (o ∷ order) (suc i) x left apart lt ex e = let n : suc i + 1 ≡ suc (i + 1) = omega arith in rw n (next_run taken order i x left apart.1 (omega (arith, lt)) ex e)
