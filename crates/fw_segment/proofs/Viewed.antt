-- Readings that are seen through a view: fields together, lists, and all of the bytes.
use Rattle.std.proofs.Common.{◌≡◌, ◌∙◌, ℕ, zero, suc, Bool, true, false, cond, eqb, ltb, List, ◌∷◌, length, map, Result, Ok, Err, refl}
use Rattle.std.specs.Int.{w32}
use Rattle.fw_bytes.specs.Reading.{Reading, ◌>>=◌, both, number_at, seen, times, list_at}
use Rattle.fw_entry_bytes.specs.Whole.{whole}

abbrev pub viewed : {A B : Type 0} → (A → B) → A × List ℕ → Result (B × List ℕ) ℕ
viewed v x = Ok (v x.0, x.1)

abbrev pub paired : {A B : Type 0} → A → B × List ℕ → Result ((A × B) × List ℕ) ℕ
paired a y = Ok ((a, y.0), y.1)

abbrev pub second_viewed : {A B C : Type 0} → (B → C) → A × B → A × C
second_viewed v p = (p.0, v p.1)

seen_after : {A B C : Type 0} (v : B → C) (a : A) (r : Result (B × List ℕ) ℕ) → ((r >>= viewed v) >>= paired a) ≡ ((r >>= paired a) >>= viewed (second_viewed v))
seen_after v a (Ok y) = refl
seen_after v a (Err d) = refl

seen_second : {A B C : Type 0} (v : B → C) (g : Reading B) (r : Result (A × List ℕ) ℕ)
    → (r >>= λ x. (g x.1 >>= viewed v) >>= paired x.0) ≡ ((r >>= λ x. g x.1 >>= paired x.0) >>= viewed (second_viewed v))
seen_second v g (Ok x) = seen_after v x.0 (g x.1)
seen_second v g (Err d) = refl

-- a view of the second of two fields is a view of both
pub both_seen : {A B C : Type 0} (v : B → C) (f : Reading A) (g : Reading B) (bytes : List ℕ) → both f (seen v g) bytes ≡ seen (second_viewed v) (both f g) bytes
unfolding both seen
both_seen v f g bytes = seen_second v g (f bytes)

same_second : {A B : Type 0} (g h : Reading B) → ((bytes : List ℕ) → g bytes ≡ h bytes) → (r : Result (A × List ℕ) ℕ) → (r >>= λ x. g x.1 >>= paired x.0) ≡ (r >>= λ x. h x.1 >>= paired x.0)
same_second g h e (Ok x) = rw (e x.1) refl
same_second g h e (Err d) = refl

pub both_same : {A B : Type 0} (f : Reading A) (g h : Reading B) → ((bytes : List ℕ) → g bytes ≡ h bytes) → (bytes : List ℕ) → both f g bytes ≡ both f h bytes
unfolding both
both_same f g h e bytes = same_second g h e (f bytes)

twice_on : {A B C : Type 0} (v : A → B) (w : B → C) (r : Result (A × List ℕ) ℕ) → ((r >>= viewed v) >>= viewed w) ≡ (r >>= viewed (λ x. w (v x)))
twice_on v w (Ok x) = refl
twice_on v w (Err d) = refl

-- a view of a view
pub seen_twice : {A B C : Type 0} (v : A → B) (w : B → C) (f : Reading A) (g : Reading B) (bytes : List ℕ) → g bytes ≡ seen v f bytes → seen w g bytes ≡ seen (λ x. w (v x)) f bytes
unfolding seen
seen_twice v w f g bytes e = rw e (twice_on v w (f bytes))

-- ---- items in turn

abbrev put_first : {A : Type 0} → A → List A × List ℕ → Result (List A × List ℕ) ℕ
put_first x others = Ok (x ∷ others.0, others.1)

others_seen : {A B : Type 0} (v : A → B) (x : A) (r : Result (List A × List ℕ) ℕ) → ((r >>= viewed (map v)) >>= put_first (v x)) ≡ ((r >>= put_first x) >>= viewed (map v))
others_seen v x (Ok others) = refl
others_seen v x (Err d) = refl

first_seen : {A B : Type 0} (v : A → B) (n : ℕ) (f : Reading A) (g : Reading B) → ((bytes : List ℕ) → times g n bytes ≡ seen (map v) (times f n) bytes) → (r : Result (A × List ℕ) ℕ)
    → ((r >>= viewed v) >>= λ first. times g n first.1 >>= put_first first.0) ≡ ((r >>= λ first. times f n first.1 >>= put_first first.0) >>= viewed (map v))
unfolding seen
first_seen v n f g next (Ok x) = rw (next x.1) (others_seen v x.0 (times f n x.1))
first_seen v n f g next (Err d) = refl

pub times_seen : {A B : Type 0} (v : A → B) (f : Reading A) (g : Reading B) → ((bytes : List ℕ) → g bytes ≡ seen v f bytes) → (n : ℕ) (bytes : List ℕ) → times g n bytes ≡ seen (map v) (times f n) bytes
unfolding seen times
times_seen v f g same zero bytes = refl
times_seen v f g same (suc n) bytes = rw (same bytes) (first_seen v n f g (times_seen v f g same n) (f bytes))

if_seen : {A B : Type 0} (v : A → B) (none past : Bool) (left : ℕ) (b : Result (List B × List ℕ) ℕ) (a : Result (List A × List ℕ) ℕ) → b ≡ (a >>= viewed (map v))
    → cond none (Err left) (cond past (Err left) b) ≡ (cond none (Err left) (cond past (Err left) a) >>= viewed (map v))
if_seen v true past left b a e = refl
if_seen v false true left b a e = refl
if_seen v false false left b a e = e

list_seen_on : {A B : Type 0} (v : A → B) (f : Reading A) (g : Reading B) → ((n : ℕ) (bytes : List ℕ) → times g n bytes ≡ seen (map v) (times f n) bytes) → (least most left : ℕ) (r : Result (ℕ × List ℕ) ℕ)
    → (r >>= λ n. cond (ltb n.0 least) (Err left) (cond (ltb most n.0) (Err left) (times g n.0 n.1)))
    ≡ ((r >>= λ n. cond (ltb n.0 least) (Err left) (cond (ltb most n.0) (Err left) (times f n.0 n.1))) >>= viewed (map v))
unfolding seen
list_seen_on v f g each least most left (Ok n) = if_seen v (ltb n.0 least) (ltb most n.0) left (times g n.0 n.1) (times f n.0 n.1) (each n.0 n.1)
list_seen_on v f g each least most left (Err d) = refl

-- a view of each item is a view of the list
pub list_seen : {A B : Type 0} (v : A → B) (f : Reading A) (g : Reading B) → ((bytes : List ℕ) → g bytes ≡ seen v f bytes) → (least most : ℕ) (bytes : List ℕ) → list_at least most g bytes ≡ seen (map v) (list_at least most f) bytes
unfolding seen list_at
list_seen v f g same least most bytes = list_seen_on v f g (times_seen v f g same) least most (length bytes) (number_at w32 bytes)

-- ---- all of the bytes

abbrev ended : {A : Type 0} → A × List ℕ → Result A ℕ
ended x = cond (eqb (length x.1) 0) (Ok x.0) (Err (length x.1))

abbrev pub answered : {A B : Type 0} → (A → B) → A → Result B ℕ
answered v y = Ok (v y)

whole_seen_test : {A B : Type 0} (v : A → B) (b : Bool) (x : A) (d : ℕ) → cond b (answered v x) (Err d) ≡ (cond b (Ok x) (Err d) >>= answered v)
whole_seen_test v true x d = refl
whole_seen_test v false x d = refl

whole_seen_on : {A B : Type 0} (v : A → B) (r : Result (A × List ℕ) ℕ) → ((r >>= viewed v) >>= ended) ≡ ((r >>= ended) >>= answered v)
whole_seen_on v (Ok x) = whole_seen_test v (eqb (length x.1) 0) x.0 (length x.1)
whole_seen_on v (Err d) = refl

whole_seen : {A B : Type 0} (v : A → B) (f : Reading A) (bytes : List ℕ) → whole (seen v f) bytes ≡ (whole f bytes >>= answered v)
unfolding whole seen
whole_seen v f bytes = whole_seen_on v (f bytes)

whole_same : {A : Type 0} (f g : Reading A) (bytes : List ℕ) → f bytes ≡ g bytes → whole f bytes ≡ whole g bytes
unfolding whole
whole_same f g bytes e = rw e refl

-- what is read through a view of all the bytes is a view of what is read of them
pub whole_viewed : {A B : Type 0} (v : A → B) (f : Reading A) (g : Reading B) (bytes : List ℕ) → g bytes ≡ seen v f bytes → whole g bytes ≡ (whole f bytes >>= answered v)
whole_viewed v f g bytes e = whole_same g (seen v f) bytes e ∙ whole_seen v f bytes
