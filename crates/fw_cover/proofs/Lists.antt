-- Lists of lists: each element goes to the end of the list that its number names.
use Rattle.std.proofs.Common.{◌≡◌, ◌≢◌, ◌∙◌, ℕ, zero, suc, ◌<◌, Bool, ◌&&◌, false, List, [], ◌∷◌, ◌++◌, length, get_or, set, map, filter, All, refl, sym, ap, arith, ⊎_elim}
use Rattle.std.specs.List.{range_with_len}
use Rattle.std.proofs.lemmas.Bool.{cases_eq}
use Rattle.std.proofs.lemmas.List.{ext_get_or, length-set, get_or-set_same, get_or-set_other}
use Rattle.std.proofs.lemmas.List.Elements.{All-head, All-nil, All-tail}
use Rattle.std.proofs.lemmas.List.FromFn.{length-map-range_with_len, get_or-map-range_with_len}
use Rattle.fw_cover.proofs.Sorting.{two_ways}

-- one element more in the list at m, where the lists were those that `was` gives, and are to be those that `now` gives
pub put_in : {Y : Type 0} (n m : ℕ) (was now : ℕ → List Y) (y : Y) → ((k : ℕ) → m ≡ k → now k ≡ was k ++ y ∷ []) → ((k : ℕ) → m ≢ k → now k ≡ was k) → (old new : List (List Y)) → m < n
    → old ≡ map was (range_with_len 0 n) → new ≡ set old m (get_or old m [] ++ y ∷ []) → new ≡ map now (range_with_len 0 n)
put_in {Y} n m was now y own others old new within before put =
    let pushed : List Y = get_or old m [] ++ y ∷ [] in
    let long : length old ≡ n = ap length before ∙ length-map-range_with_len was 0 n in
    let longer : length new ≡ n = ap length put ∙ length-set old m pushed ∙ long in
    ext_get_or [] new (map now (range_with_len 0 n)) (longer ∙ sym (length-map-range_with_len now 0 n))
    (λ j l.
    let inside : j < n = omega (arith, l, longer) in
    let after : get_or (map now (range_with_len 0 n)) j [] ≡ now j = get_or-map-range_with_len now 0 n j j [] inside (omega arith) in
    let there : get_or old j [] ≡ was j = ap (λ x. get_or x j []) before ∙ get_or-map-range_with_len was 0 n j j [] inside (omega arith) in
    let written : get_or new j [] ≡ get_or (set old m pushed) j [] = ap (λ x. get_or x j []) put in
    ⊎_elim
    (λ (same : m ≡ j).
    let here : get_or (set old m pushed) j [] ≡ pushed = rw (← same) (get_or-set_same old m pushed [] (omega (arith, within, long))) in
    let was_here : get_or old m [] ≡ was j = ap (λ x. get_or old x []) same ∙ there in
    written ∙ here ∙ ap (λ l. l ++ y ∷ []) was_here ∙ sym (own j same) ∙ sym after)
    (λ (other : m ≢ j).
    let apart : j ≢ m = λ e. other (sym e) in
    written ∙ get_or-set_other old m j pushed [] apart ∙ there ∙ sym (others j other) ∙ sym after)
    (cases_eq m j))

-- one filter after another
pub filter_both : {X : Type 0} (p q r : X → Bool) → ((x : X) → (p x && q x) ≡ r x) → (xs : List X) → filter q (filter p xs) ≡ filter r xs
filter_both p q r both [] = refl
filter_both p q r both (x ∷ xs) = two_ways (p x)
    (λ holds. let same : q x ≡ r x = sym (ap (λ b. b && q x) holds) ∙ both x in rw (holds, same, filter_both p q r both xs) refl)
    (λ fails. let none : false ≡ r x = sym (ap (λ b. b && q x) fails) ∙ both x in rw (fails, ← none) (filter_both p q r both xs))

-- what holds of all elements of all lists holds of those of the list at a place
pub all_at : {X : Type 0} (P : X → Type 0) (lists : List (List X)) (k : ℕ) → All (All P) lists → All P (get_or lists k [])
all_at P [] k all = All-nil P
all_at P (l ∷ lists) zero all = All-head (All P) l lists all
all_at P (l ∷ lists) (suc k) all = all_at P lists k (All-tail (All P) l lists all)
