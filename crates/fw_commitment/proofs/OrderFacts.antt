-- Texts that are put in order, each once.
use Rattle.std.proofs.Common.{◌≡◌, ◌+◌, ◌<◌, ◌≤◌, ℕ, zero, suc, List, [], ◌∷◌, ◌++◌, length, map, get_or, take, Bool, true, false, not, Ordering, Less, Equal, Greater, nat_cmp, is_eq, refl, sym, ap, ◌∙◌, arith, subst, inl, inr, Bor}
use Rattle.std.specs.Prelude.{◌⊎◌, ◌||◌}
use Rattle.std.specs.List.{Contains, AllByRecursion, fold, list_any}
use Rattle.std.specs.List.Sorted.{IsStrictlySortedBy}
use Rattle.std.specs.Ordering.{match_ordering}
use Rattle.std.specs.Cmp.Lexicographic.{slice_cmp}
use Rattle.std.specs.BTreeMap.{is_at}
use Rattle.std.specs.BTreeSet.{insert_key}
use Rattle.std.proofs.lemmas.Map.Text.{is_eq-slice_cmp}
use Rattle.std.proofs.lemmas.Slice.Eq.{bytes_eq-Decides}
use Rattle.std.proofs.lemmas.List.{take_all}
use Rattle.fw_terms.specs.Texts.{HasTwice, IsRising}
use Rattle.fw_commitment.specs.Fields.{in_byte_order}
use Rattle.fw_commitment.proofs.ListFacts.{map-more}

abbrev Texts : Type 0
Texts = List (List ℕ)

abbrev byte_cmp : List ℕ → List ℕ → Ordering
byte_cmp = slice_cmp nat_cmp

-- ---- a text among others, by recursion

abbrev pub Among : List ℕ → List (List ℕ) → Type 0
Among q [] = ⊥
Among q (x ∷ xs) = (q ≡ x) ⊎ Among q xs

pub among-contains : (q : List ℕ) (xs : List (List ℕ)) → Among q xs → Contains xs q
among-contains q [] h = absurd h
among-contains q (x ∷ xs) (inl e) = (0, omega arith, sym e)
among-contains q (x ∷ xs) (inr h) = let (k, lt, is) = among-contains q xs h in (suc k, omega arith, is)

pub contains-among : (q : List ℕ) (xs : List (List ℕ)) → Contains xs q → Among q xs
contains-among q [] (k, lt, is) = absurd (omega arith)
contains-among q (x ∷ xs) (zero, lt, is) = inl (sym is)
contains-among q (x ∷ xs) (suc k, lt, is) = inr (contains-among q xs (k, omega arith, is))

pub among-append : (q : List ℕ) (xs ys : List (List ℕ)) → Among q xs → Among q (xs ++ ys)
among-append q [] ys h = absurd h
among-append q (x ∷ xs) ys (inl e) = inl e
among-append q (x ∷ xs) ys (inr h) = inr (among-append q xs ys h)

pub among-last : (q : List ℕ) (xs : List (List ℕ)) (x : List ℕ) → Among q (xs ++ x ∷ []) → (q ≡ x) ⊎ Among q xs
among-last q [] x (inl e) = inl e
among-last q [] x (inr h) = absurd h
among-last q (y ∷ xs) x (inl e) = inr (inl e)
among-last q (y ∷ xs) x (inr h) = elim (among-last q xs x h) [ inl e ↦ inl e | inr more ↦ inr (inr more) ]

-- ---- an insertion in order

equal_texts : (k x : List ℕ) → byte_cmp k x ≡ Equal → k ≡ x
equal_texts k x e = (bytes_eq-Decides k x).0 (sym (is_eq-slice_cmp k x) ∙ ap is_eq e)

to_step : (q k x : List ℕ) (xs : Texts) (o : Ordering) → (Among q (insert_key byte_cmp xs k) → (q ≡ k) ⊎ Among q xs)
    → Among q (match_ordering o (k ∷ (x ∷ xs)) (x ∷ xs) (x ∷ insert_key byte_cmp xs k)) → (q ≡ k) ⊎ Among q (x ∷ xs)
to_step q k x xs Less ih (inl e) = inl e
to_step q k x xs Less ih (inr h) = inr h
to_step q k x xs Equal ih h = inr h
to_step q k x xs Greater ih (inl e) = inr (inl e)
to_step q k x xs Greater ih (inr h) = elim (ih h) [ inl e ↦ inl e | inr more ↦ inr (inr more) ]

pub among-inserted : (q k : List ℕ) (xs : List (List ℕ)) → Among q (insert_key (slice_cmp nat_cmp) xs k) → (q ≡ k) ⊎ Among q xs
among-inserted q k [] (inl e) = inl e
among-inserted q k [] (inr h) = absurd h
among-inserted q k (x ∷ xs) h = to_step q k x xs (byte_cmp k x) (among-inserted q k xs) h

from_step : (q k x : List ℕ) (xs : Texts) (o : Ordering) → byte_cmp k x ≡ o → ((q ≡ k) ⊎ Among q xs → Among q (insert_key byte_cmp xs k))
    → (q ≡ k) ⊎ Among q (x ∷ xs) → Among q (match_ordering o (k ∷ (x ∷ xs)) (x ∷ xs) (x ∷ insert_key byte_cmp xs k))
from_step q k x xs Less is ih (inl e) = inl e
from_step q k x xs Less is ih (inr h) = inr h
from_step q k x xs Equal is ih (inl e) = inl (e ∙ equal_texts k x is)
from_step q k x xs Equal is ih (inr h) = h
from_step q k x xs Greater is ih (inl e) = inr (ih (inl e))
from_step q k x xs Greater is ih (inr (inl e)) = inl e
from_step q k x xs Greater is ih (inr (inr h)) = inr (ih (inr h))

pub inserted-among : (q k : List ℕ) (xs : List (List ℕ)) → (q ≡ k) ⊎ Among q xs → Among q (insert_key (slice_cmp nat_cmp) xs k)
inserted-among q k [] (inl e) = inl e
inserted-among q k [] (inr h) = absurd h
inserted-among q k (x ∷ xs) h = from_step q k x xs (byte_cmp k x) refl (inserted-among q k xs) h

-- ---- what a set of texts holds

-- the keys are these texts: in order, and none of them twice
pub record Ordered (texts keys : List (List ℕ)) : Type 0 where
  pub same : keys ≡ in_byte_order texts
  pub once : ¬ HasTwice texts
  pub all : (q : List ℕ) → Among q keys → Among q texts
  pub each : (q : List ℕ) → Among q texts → Among q keys

pub ordered-none : Ordered [] []
unfolding HasTwice
ordered-none = record { same = refl; once = λ h. h; all = λ q h. h; each = λ q h. h }

fold-last : {A X : Type 0} (f : A → X → A) (a : A) (xs : List X) (x : X) → fold f a (xs ++ x ∷ []) ≡ f (fold f a xs) x
fold-last f a [] x = refl
fold-last f a (y ∷ xs) x = fold-last f (f a y) xs x

twice-last : (xs : Texts) (x : List ℕ) → HasTwice (xs ++ x ∷ []) → HasTwice xs ⊎ Among x xs
unfolding HasTwice
twice-last [] x (inl h) = absurd (contains-among x [] h)
twice-last [] x (inr h) = absurd h
twice-last (y ∷ xs) x (inl h) = elim (among-last y xs x (contains-among y (xs ++ x ∷ []) h)) [
  | inl e ↦ inr (inl (sym e))
  | inr more ↦ inl (inl (among-contains y xs more))
]
twice-last (y ∷ xs) x (inr h) = elim (twice-last xs x h) [ inl twice ↦ inl (inr twice) | inr more ↦ inr (inr more) ]

-- one text more, which isn't there yet
pub ordered-more : (texts keys : List (List ℕ)) (x : List ℕ) → Ordered texts keys → ¬ Among x keys → Ordered (texts ++ x ∷ []) (insert_key (slice_cmp nat_cmp) keys x)
ordered-more texts keys x o new = record {
  same = ap (λ ks. insert_key byte_cmp ks x) o.same ∙ sym (fold-last (insert_key byte_cmp) [] texts x);
  once = λ h. elim (twice-last texts x h) [ inl twice ↦ o.once twice | inr there ↦ new (o.each x there) ];
  all = λ q h. elim (among-inserted q x keys h) [
    | inl e ↦ last_among q texts x e
    | inr there ↦ among-append q texts (x ∷ []) (o.all q there)
  ];
  each = λ q h. inserted-among q x keys (elim (among-last q texts x h) [ inl e ↦ inl e | inr there ↦ inr (o.each q there) ]);
}
  where
    last_among : (q : List ℕ) (xs : List (List ℕ)) (x : List ℕ) → q ≡ x → Among q (xs ++ x ∷ [])
    last_among q [] x e = inl e
    last_among q (y ∷ xs) x e = inr (last_among q xs x e)

twice-there : (xs ys : Texts) (x : List ℕ) → Among x xs → HasTwice (xs ++ x ∷ ys)
unfolding HasTwice
twice-there [] ys x h = absurd h
twice-there (y ∷ xs) ys x (inl e) = inl (among-contains y (xs ++ x ∷ ys) (here xs ys))
  where
    here : (xs ys : List (List ℕ)) → Among y (xs ++ x ∷ ys)
    here [] ys = inl (sym e)
    here (z ∷ xs) ys = inr (here xs ys)
twice-there (y ∷ xs) ys x (inr h) = inr (twice-there xs ys x h)

-- one text more, which is there already
pub ordered-twice : (texts keys more : List (List ℕ)) (x : List ℕ) → Ordered texts keys → Among x keys → HasTwice (texts ++ x ∷ more)
ordered-twice texts keys more x o there = twice-there texts more x (o.all x there)

-- ---- borrowed texts

abbrev pub text_cmp : Bor (List ℕ) → Bor (List ℕ) → Ordering
text_cmp a b = slice_cmp nat_cmp a.now b.now

map-match : (o : Ordering) (a b c : List (Bor (List ℕ))) (d e f : Texts) → map (λ t. t.now) a ≡ d → map (λ t. t.now) b ≡ e → map (λ t. t.now) c ≡ f
    → map (λ t. t.now) (match_ordering o a b c) ≡ match_ordering o d e f
map-match Less a b c d e f p q r = p
map-match Equal a b c d e f p q r = q
map-match Greater a b c d e f p q r = r

pub map-insert_key : (ks : List (Bor (List ℕ))) (k : Bor (List ℕ)) → map (λ t. t.now) (insert_key text_cmp ks k) ≡ insert_key (slice_cmp nat_cmp) (map (λ t. t.now) ks) k.now
map-insert_key [] k = refl
map-insert_key (x ∷ ks) k = map-match (byte_cmp k.now x.now) (k ∷ (x ∷ ks)) (x ∷ ks) (x ∷ insert_key text_cmp ks k) _ _ _ refl refl (ap (λ t. x.now ∷ t) (map-insert_key ks k))

any_step : (q x : List ℕ) (b c : Bool) → (b ≡ true → q ≡ x) → (b || c) ≡ true → (q ≡ x) ⊎ (c ≡ true)
any_step q x true c is h = inl (is refl)
any_step q x false c is h = inr h

pub any-among : (q : Bor (List ℕ)) (ks : List (Bor (List ℕ))) → list_any (is_at (text_cmp q)) ks ≡ true → Among q.now (map (λ t. t.now) ks)
any-among q [] h = absurd (cc)
any-among q (k ∷ ks) h =
    let is = λ (e : is_eq (byte_cmp q.now k.now) ≡ true). (bytes_eq-Decides q.now k.now).0 (sym (is_eq-slice_cmp q.now k.now) ∙ e) in
    elim (any_step q.now k.now (is_eq (byte_cmp q.now k.now)) (list_any (is_at (text_cmp q)) ks) is h) [ inl e ↦ inl e | inr more ↦ inr (any-among q ks more) ]

or_left : (b c : Bool) → b ≡ true → (b || c) ≡ true
or_left b c e = rw e

or_right : (b c : Bool) → c ≡ true → (b || c) ≡ true
or_right true c e = refl
or_right false c e = e

pub among-any : (q : Bor (List ℕ)) (ks : List (Bor (List ℕ))) → Among q.now (map (λ t. t.now) ks) → list_any (is_at (text_cmp q)) ks ≡ true
among-any q [] h = absurd h
among-any q (k ∷ ks) (inl e) = or_left _ _ (is_eq-slice_cmp q.now k.now ∙ (bytes_eq-Decides q.now k.now).1 e)
among-any q (k ∷ ks) (inr h) = or_right _ _ (among-any q ks h)

below : (k : Bor (List ℕ)) (ks : List (Bor (List ℕ))) → AllByRecursion (λ y. text_cmp k y ≡ Less) ks → AllByRecursion (λ y. byte_cmp k.now y ≡ Less) (map (λ t. t.now) ks)
below k [] h = tt
below k (y ∷ ks) h = (h.0, below k ks h.1)

-- borrowed texts in order are texts in order
pub rising : (ks : List (Bor (List ℕ))) → IsStrictlySortedBy text_cmp ks → IsStrictlySortedBy (slice_cmp nat_cmp) (map (λ t. t.now) ks)
unfolding IsStrictlySortedBy
rising [] h = tt
rising (k ∷ ks) h = (below k ks h.0, rising ks h.1)

-- ---- the texts are put into a set one by one

abbrev pub shown : List (Bor (List ℕ)) → List (List ℕ)
shown texts = map (λ t. t.now) texts

split_at : (texts : List (Bor (List ℕ))) (i : ℕ) (d : Bor (List ℕ)) → i < length texts → (rest : Texts) × (shown (take i texts) ++ (get_or texts i d).now ∷ rest ≡ shown texts)
split_at [] i d lt = absurd (omega arith)
split_at (x ∷ texts) zero d lt = (shown texts, refl)
split_at (x ∷ texts) (suc i) d lt = let (rest, is) = split_at texts i d (omega arith) in (rest, ap (λ t. x.now ∷ t) is)

not_false : (b c : Bool) → b ≡ not c → b ≡ false → c ≡ true
not_false b true is e = refl
not_false b false is e = absurd (let both = sym is ∙ e in cc)

not_true : (b c : Bool) → b ≡ not c → b ≡ true → c ≡ false
not_true b true is e = absurd (let both = sym is ∙ e in cc)
not_true b false is e = refl

pub step-twice : (texts keys : List (Bor (List ℕ))) (i : ℕ) (d : Bor (List ℕ)) (b : Bool) → i < length texts → Ordered (shown (take i texts)) (shown keys)
    → b ≡ not (list_any (is_at (text_cmp (get_or texts i d))) keys) → b ≡ false → HasTwice (shown texts)
step-twice texts keys i d b lt o is old =
    let there = any-among (get_or texts i d) keys (not_false b _ is old) in
    let (rest, whole) = split_at texts i d lt in
    subst HasTwice whole (ordered-twice (shown (take i texts)) (shown keys) rest (get_or texts i d).now o there)

pub step-more : (texts keys more : List (Bor (List ℕ))) (i : ℕ) (d : Bor (List ℕ)) (b : Bool) → i < length texts → Ordered (shown (take i texts)) (shown keys)
    → b ≡ not (list_any (is_at (text_cmp (get_or texts i d))) keys) → b ≡ true → more ≡ insert_key text_cmp keys (get_or texts i d) → Ordered (shown (take (i + 1) texts)) (shown more)
step-more texts keys more i d b lt o is added next =
    let x = get_or texts i d in
    let absent = not_true b (list_any (is_at (text_cmp x)) keys) is added in
    let new : ¬ Among x.now (shown keys) = λ h. let there = among-any x keys h in let both = sym absent ∙ there in absurd (cc) in
    let whole = ordered-more (shown (take i texts)) (shown keys) x.now o new in
    let all = sym (map-more (λ (t : Bor (List ℕ)). t.now) texts i d lt) in
    let into = sym (ap shown next ∙ map-insert_key keys x) in
    subst (λ ks. Ordered (shown (take (i + 1) texts)) ks) into (subst (λ ts. Ordered ts (insert_key (slice_cmp nat_cmp) (shown keys) x.now)) all whole)

pub step-all : (texts keys ordered : List (Bor (List ℕ))) (i : ℕ) → length texts ≤ i → Ordered (shown (take i texts)) (shown keys) → IsStrictlySortedBy text_cmp keys → keys ≡ ordered
    → (¬ HasTwice (shown texts)) × (shown ordered ≡ in_byte_order (shown texts)) × IsRising (shown ordered)
step-all texts keys ordered i past o sorted is =
    let whole = subst (λ ts. Ordered (shown ts) (shown keys)) (take_all i texts past) o in
    (whole.once, sym (ap shown is) ∙ whole.same, subst (λ ks. IsRising (shown ks)) is (rising keys sorted))
