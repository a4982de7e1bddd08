-- Entries in the order of their keys, looked at from one in their middle.
use Rattle.std.proofs.Common.{◌≡◌, ℕ, ◌+◌, ◌<◌, length, length-append, List, [], ◌∷◌, ◌++◌, Bool, true, false, cond, ◌&&◌, T, Ordering, refl, sym, ap, subst, ◌∙◌, arith}
use Rattle.std.specs.Prelude.{Option, Some, None, unwrap_or, if◌then◌else◌}
use Rattle.std.specs.Ordering.{is_lt, is_eq, eq_by_cmp, ordering_reverse, nat_cmp}
use Rattle.std.specs.declared.cmp.Ordering.TheVariants.{Less, Equal, Greater}
use Rattle.std.specs.Cmp.{IsTotalOrder}
use Rattle.std.specs.Cmp.Lexicographic.{slice_cmp, nat_list_cmp_total, texts_ties, bytes_decides}
use Rattle.std.specs.FinMap.{find, put, is_sorted}
use Rattle.std.proofs.lemmas.List.{append_assoc}
use Rattle.std.specs.FinMap.Entries.{by_order, below_all, find-put, is_sorted-put}
use Rattle.std.specs.Str.{bytes_eq}
use Rattle.fw_persistent.specs.Counts.{Counts, AreCounted, count_of, counted_once_more}
use Rattle.fw_persistent.specs.Values.{Values, IsRising, value_at, with_value}

both : (a b : Bool) → T a → T b → T (a && b)
both true b p q = q
both false b p q = p

first : (a b : Bool) → T (a && b) → T a
first true b p = tt
first false b p = p

second : (a b : Bool) → T (a && b) → T b
second true b p = p
second false b p = absurd p

less : (o : Ordering) → T (is_lt o) → o ≡ Less
less Less p = refl
less Equal p = absurd p
less Greater p = absurd p

held : (b : Bool) → b ≡ true → T b
held b e = subst T (sym e) tt

told : (b : Bool) → T b → b ≡ true
told true h = refl
told false h = absurd h

module _ {K : Type 0} (R : K → K → Ordering) (o : IsTotalOrder R) where
  -- what is past k is past what is below k
  past : (x k y : K) → R y k ≡ Less → R x k ≡ Greater → R x y ≡ Greater
  past x k y p q = o.antisymm x y ∙ ap ordering_reverse (o.trans y k x p (o.antisymm k x ∙ ap ordering_reverse q))

  -- and so is what ties with k
  past_tied : (x k y : K) → R y k ≡ Less → R x k ≡ Equal → R x y ≡ Greater
  past_tied x k y p q = o.congr x k y q ∙ o.antisymm k y ∙ ap ordering_reverse p

module _ {K X : Type 0} (R : K → K → Ordering) where
  below_front : (x : K) (l m : List (K × X)) → T (below_all R x (l ++ m)) → T (below_all R x l)
  below_front x [] m h = tt
  below_front x (e ∷ l) m h = both _ _ (first _ _ h) (below_front x l m (second _ _ h))

  below_middle : (x : K) (l : List (K × X)) (e : K × X) (r : List (K × X)) → T (below_all R x (l ++ e ∷ r)) → R x e.0 ≡ Less
  below_middle x [] e r h = less _ (first _ _ h)
  below_middle x (f ∷ l) e r h = below_middle x l e r (second _ _ h)

  pub sorted_front : (l m : List (K × X)) → T (is_sorted R (l ++ m)) → T (is_sorted R l)
  sorted_front [] m h = tt
  sorted_front (e ∷ l) m h = both _ _ (below_front e.0 l m (first _ _ h)) (sorted_front l m (second _ _ h))

  pub sorted_back : (l : List (K × X)) (e : K × X) (r : List (K × X)) → T (is_sorted R (l ++ e ∷ r)) → T (is_sorted R r)
  sorted_back [] e r h = second _ _ h
  sorted_back (f ∷ l) e r h = sorted_back l e r (second _ _ h)

  pub put_before : (x : K) (v : X) (l : List (K × X)) (e : K × X) (r : List (K × X)) → R x e.0 ≡ Less → put R x v (l ++ e ∷ r) ≡ put R x v l ++ e ∷ r
  put_before x v [] e r p = ap (λ o. by_order o ((x, v) ∷ e ∷ r) ((e.0, v) ∷ r) (e ∷ put R x v r)) p
  put_before x v (f ∷ l) e r p =
      elim (R x f.0) as (λ o. by_order o ((x, v) ∷ f ∷ l ++ e ∷ r) ((f.0, v) ∷ l ++ e ∷ r) (f ∷ put R x v (l ++ e ∷ r)) ≡ by_order o ((x, v) ∷ f ∷ l) ((f.0, v) ∷ l) (f ∷ put R x v l) ++ e ∷ r) [
        | Less ↦ refl
        | Equal ↦ refl
        | Greater ↦ ap (λ es. f ∷ es) (put_before x v l e r p)
      ]

  module _ (o : IsTotalOrder R) where
    below_less : (x y : K) (es : List (K × X)) → R x y ≡ Less → T (below_all R y es) → T (below_all R x es)
    below_less x y [] p h = tt
    below_less x y (e ∷ es) p h = both _ _ (subst (λ r. T (is_lt r)) (sym (o.trans x y e.0 p (less _ (first _ _ h)))) tt) (below_less x y es p (second _ _ h))

    find_below : (x : K) (es : List (K × X)) → T (below_all R x es) → find R x es ≡ None
    find_below x [] h = refl
    find_below x (e ∷ es) h = ap (λ r. cond (is_eq r) (Some e.1) (find R x es)) (less _ (first _ _ h)) ∙ find_below x es (second _ _ h)

    pub find_before : (x : K) (l : List (K × X)) (e : K × X) (r : List (K × X)) → T (is_sorted R (l ++ e ∷ r)) → R x e.0 ≡ Less → find R x (l ++ e ∷ r) ≡ find R x l
    find_before x [] e r h p = ap (λ o. cond (is_eq o) (Some e.1) (find R x r)) p ∙ find_below x r (below_less x e.0 r p (first _ _ h))
    find_before x (f ∷ l) e r h p = ap (cond (eq_by_cmp R x f.0) (Some f.1)) (find_before x l e r (second _ _ h) p)

    pub find_middle : (x : K) (l : List (K × X)) (e : K × X) (r : List (K × X)) → T (is_sorted R (l ++ e ∷ r)) → R x e.0 ≡ Equal → find R x (l ++ e ∷ r) ≡ Some e.1
    find_middle x [] e r h p = ap (λ o. cond (is_eq o) (Some e.1) (find R x r)) p
    find_middle x (f ∷ l) e r h p =
        ap (λ o. cond (is_eq o) (Some f.1) (find R x (l ++ e ∷ r))) (past_tied R o x e.0 f.0 (below_middle f.0 l e r (first _ _ h)) p)
        ∙ find_middle x l e r (second _ _ h) p

    pub find_after : (x : K) (l : List (K × X)) (e : K × X) (r : List (K × X)) → T (is_sorted R (l ++ e ∷ r)) → R x e.0 ≡ Greater → find R x (l ++ e ∷ r) ≡ find R x r
    find_after x [] e r h p = ap (λ o. cond (is_eq o) (Some e.1) (find R x r)) p
    find_after x (f ∷ l) e r h p =
        ap (λ o. cond (is_eq o) (Some f.1) (find R x (l ++ e ∷ r))) (past R o x e.0 f.0 (below_middle f.0 l e r (first _ _ h)) p)
        ∙ find_after x l e r (second _ _ h) p

    pub put_middle : (x : K) (v : X) (l : List (K × X)) (e : K × X) (r : List (K × X)) → T (is_sorted R (l ++ e ∷ r)) → R x e.0 ≡ Equal → put R x v (l ++ e ∷ r) ≡ l ++ (e.0, v) ∷ r
    put_middle x v [] e r h p = ap (λ o. by_order o ((x, v) ∷ e ∷ r) ((e.0, v) ∷ r) (e ∷ put R x v r)) p
    put_middle x v (f ∷ l) e r h p =
        ap (λ o. by_order o ((x, v) ∷ f ∷ l ++ e ∷ r) ((f.0, v) ∷ l ++ e ∷ r) (f ∷ put R x v (l ++ e ∷ r))) (past_tied R o x e.0 f.0 (below_middle f.0 l e r (first _ _ h)) p)
        ∙ ap (λ es. f ∷ es) (put_middle x v l e r (second _ _ h) p)

    pub put_after : (x : K) (v : X) (l : List (K × X)) (e : K × X) (r : List (K × X)) → T (is_sorted R (l ++ e ∷ r)) → R x e.0 ≡ Greater → put R x v (l ++ e ∷ r) ≡ l ++ e ∷ put R x v r
    put_after x v [] e r h p = ap (λ o. by_order o ((x, v) ∷ e ∷ r) ((e.0, v) ∷ r) (e ∷ put R x v r)) p
    put_after x v (f ∷ l) e r h p =
        ap (λ o. by_order o ((x, v) ∷ f ∷ l ++ e ∷ r) ((f.0, v) ∷ l ++ e ∷ r) (f ∷ put R x v (l ++ e ∷ r))) (past R o x e.0 f.0 (below_middle f.0 l e r (first _ _ h)) p)
        ∙ ap (λ es. f ∷ es) (put_after x v l e r (second _ _ h) p)

module _ {V : Type 0} (l : Values V) (e : List ℕ × V) (r : Values V) where
  -- what rises does so on both sides of an entry
  pub rising_before : IsRising (l ++ e ∷ r) → IsRising l
  rising_before h = told _ (sorted_front (slice_cmp nat_cmp) l (e ∷ r) (held _ h))

  pub rising_after : IsRising (l ++ e ∷ r) → IsRising r
  rising_after h = told _ (sorted_back (slice_cmp nat_cmp) l e r (held _ h))

  -- an entry's sides have fewer values than all
  pub sides_fewer : (length l < length (l ++ e ∷ r)) × (length r < length (l ++ e ∷ r))
  sides_fewer = omega (arith, length-append l (e ∷ r))

  module _ (x : List ℕ) where
    -- where a text is found
    pub found_before : IsRising (l ++ e ∷ r) → slice_cmp nat_cmp x e.0 ≡ Less → value_at x (l ++ e ∷ r) ≡ value_at x l
    found_before h p = find_before (slice_cmp nat_cmp) nat_list_cmp_total x l e r (held _ h) p

    pub found_middle : IsRising (l ++ e ∷ r) → slice_cmp nat_cmp x e.0 ≡ Equal → value_at x (l ++ e ∷ r) ≡ Some e.1
    found_middle h p = find_middle (slice_cmp nat_cmp) nat_list_cmp_total x l e r (held _ h) p

    pub found_after : IsRising (l ++ e ∷ r) → slice_cmp nat_cmp x e.0 ≡ Greater → value_at x (l ++ e ∷ r) ≡ value_at x r
    found_after h p = find_after (slice_cmp nat_cmp) nat_list_cmp_total x l e r (held _ h) p

    -- where a value is put
    pub with_before : (v : V) → slice_cmp nat_cmp x e.0 ≡ Less → with_value x v (l ++ e ∷ r) ≡ with_value x v l ++ e ∷ r
    with_before v p = put_before (slice_cmp nat_cmp) x v l e r p

    pub with_middle : (v : V) → IsRising (l ++ e ∷ r) → slice_cmp nat_cmp x e.0 ≡ Equal → with_value x v (l ++ e ∷ r) ≡ l ++ (e.0, v) ∷ r
    with_middle v h p = put_middle (slice_cmp nat_cmp) nat_list_cmp_total x v l e r (held _ h) p

    pub with_after : (v : V) → IsRising (l ++ e ∷ r) → slice_cmp nat_cmp x e.0 ≡ Greater → with_value x v (l ++ e ∷ r) ≡ l ++ e ∷ with_value x v r
    with_after v h p = put_after (slice_cmp nat_cmp) nat_list_cmp_total x v l e r (held _ h) p

module _ {V : Type 0} (x : List ℕ) (v : V) (values : Values V) where
  pub rising_with : IsRising values → IsRising (with_value x v values)
  rising_with h = told _ (is_sorted-put (slice_cmp nat_cmp) nat_list_cmp_total x v values (held _ h))

  pub value_with : (other : List ℕ) → value_at other (with_value x v values) ≡ (if bytes_eq other x then Some v else value_at other values)
  value_with other =
      find-put (slice_cmp nat_cmp) nat_list_cmp_total other x v values
      ∙ ap (λ b. cond b (Some v) (value_at other values)) (sym (texts_ties other x))

-- entries between three sides that are turned
pub turned : {X : Type 0} (a : List X) (x : X) (b : List X) (y : X) (c : List X) (z : X) (d : List X) → (a ++ x ∷ b) ++ y ∷ (c ++ z ∷ d) ≡ a ++ x ∷ ((b ++ y ∷ c) ++ z ∷ d)
turned a x b y c z d = append_assoc a (x ∷ b) (y ∷ (c ++ z ∷ d)) ∙ ap (λ l. a ++ x ∷ l) (sym (append_assoc b (y ∷ c) (z ∷ d)))

-- texts that tie are the same
pub same_text : (x y : List ℕ) → slice_cmp nat_cmp x y ≡ Equal → x ≡ y
same_text x y p = (bytes_decides x y).0 (texts_ties x y ∙ ap is_eq p)

-- what a text counted once more comes to, and its counts
count_cases : (b : Bool) (n : ℕ) (found : Option ℕ) → (b ≡ true → n ≡ unwrap_or found 0) → unwrap_or (if b then Some (n + 1) else found) 0 ≡ unwrap_or found 0 + (if b then 1 else 0)
count_cases true n found same = ap (λ k. k + 1) (same refl)
count_cases false n found same = omega arith

pub count_raised : (x : List ℕ) (counts : Counts) (other : List ℕ) → count_of other (counted_once_more x counts) ≡ count_of other counts + (if bytes_eq other x then 1 else 0)
count_raised x counts other =
    ap (λ found. unwrap_or found 0) (value_with x (count_of x counts + 1) counts other)
    ∙ count_cases (bytes_eq other x) (count_of x counts) (value_at other counts) (λ e. ap (λ t. count_of t counts) (sym ((bytes_decides other x).0 e)))

-- each text stays counted once one is counted once more
counted_put : (x : List ℕ) (n : ℕ) (counts : Counts) → AreCounted counts → AreCounted (with_value x (n + 1) counts)
counted_put x n [] h = (omega arith, tt)
counted_put x n (e ∷ counts) h =
    elim (slice_cmp nat_cmp x e.0) as (λ o. AreCounted (by_order o ((x, n + 1) ∷ e ∷ counts) ((e.0, n + 1) ∷ counts) (e ∷ with_value x (n + 1) counts))) [
      | Less ↦ (omega arith, h)
      | Equal ↦ (omega arith, h.1)
      | Greater ↦ (h.0, counted_put x n counts h.1)
    ]

pub counted_raised : (x : List ℕ) (counts : Counts) → AreCounted counts → AreCounted (counted_once_more x counts)
counted_raised x counts h = counted_put x (count_of x counts) counts h

counted_find : (x : List ℕ) (counts : Counts) → AreCounted counts → 0 < unwrap_or (value_at x counts) 1
counted_find x [] h = omega arith
counted_find x (e ∷ counts) h =
    elim (eq_by_cmp (slice_cmp nat_cmp) x e.0) as (λ b. 0 < unwrap_or (cond b (Some e.1) (value_at x counts)) 1) [
      | true ↦ h.0
      | false ↦ counted_find x counts h.1
    ]

-- the count that is found for a text isn't 0
pub found_counted : (x : List ℕ) (counts : Counts) (n : ℕ) → AreCounted counts → value_at x counts ≡ Some n → 0 < n
found_counted x counts n h is = subst (λ found. 0 < unwrap_or found 1) is (counted_find x counts h)
