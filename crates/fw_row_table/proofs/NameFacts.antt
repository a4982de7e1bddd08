-- Facts on names: where a text stands among them, and what a text adds to them.
use Rattle.std.proofs.Common.{◌≡◌, ℕ, zero, suc, ◌+◌, ◌<◌, ◌≤◌, Bool, true, false, cond, eqb, List, [], ◌∷◌, ◌++◌, length, map, take, drop, get_or, refl, sym, ap, ◌∙◌, true≢false, arith, append_assoc, length-append, if◌then◌else◌, Some, None, ltb, position}
use Rattle.std.specs.List.{list_any, position_or_len, IsDistinct, AllByRecursion}
use Rattle.std.specs.Str.{bytes_eq}
use Rattle.std.specs.Cmp.Lexicographic.{bytes_decides, nat_list_eq_equiv}
use Rattle.std.proofs.lemmas.Bool.{lt-ltb, or_parts}
use Rattle.std.proofs.lemmas.Option.{none-some}
use Rattle.std.proofs.lemmas.List.Sums.{passes_at_first, position_or_len_is}
use Rattle.std.proofs.lemmas.List.Folds.{position_or_len_push, list_any-append}
use Rattle.std.proofs.lemmas.List.Quantifiers.{position-Some}
use Rattle.std.proofs.lemmas.List.{map_push, length-map, length-take-le, get_or-map, get_or_append_left, take-append-drop, take_more}
use Rattle.std.proofs.lemmas.Map.Keys.{IsDistinct-push}
use Rattle.fw_row_table.specs.Names.{Text, AreDistinct, place_of, with_text}

-- a test of a list's images
pub position_or_len-map : {X : Type 0} (f : X → Text) (p : Text → Bool) (xs : List X) → position_or_len (λ x. p (f x)) xs ≡ position_or_len p (map f xs)
position_or_len-map f p [] = refl
position_or_len-map f p (x ∷ xs) = rw (position_or_len-map f p xs) refl

pub position-map : {X : Type 0} (f : X → Text) (p : Text → Bool) (xs : List X) → position (λ x. p (f x)) xs ≡ position p (map f xs)
position-map f p xs = rw (position_or_len-map f p xs, length-map xs f) refl

pub list_any-map : {X : Type 0} (f : X → Text) (p : Text → Bool) (xs : List X) → list_any (λ x. p (f x)) xs ≡ list_any p (map f xs)
list_any-map f p [] = refl
list_any-map f p (x ∷ xs) = rw (list_any-map f p xs) refl

pub distinct_images : {X : Type 0} (f : X → Text) (xs : List X) → IsDistinct (λ x y. bytes_eq (f x) (f y)) xs → AreDistinct (map f xs)
unfolding IsDistinct
distinct_images f [] h = tt
distinct_images {X} f (x ∷ xs) h = (differ xs h.0, distinct_images f xs h.1)
  where
    differ : (ys : List X) → AllByRecursion (λ y. bytes_eq (f x) (f y) ≡ false) ys → AllByRecursion (λ t. bytes_eq (f x) t ≡ false) (map f ys)
    differ [] a = tt
    differ (y ∷ ys) a = (a.0, differ ys a.1)

-- a text that is there has a place, one that isn't has none
pub place-there : {X : Type 0} (p : X → Bool) (names : List X) → list_any p names ≡ true → position_or_len p names < length names
place-there p [] h = absurd (true≢false (sym h))
place-there p (x ∷ xs) h = by (p x) refl (place-there p xs)
  where
    by : (b : Bool) → p x ≡ b → (list_any p xs ≡ true → position_or_len p xs < length xs) → position_or_len p (x ∷ xs) < length (x ∷ xs)
    by true e rest = rw e (omega arith)
    by false e rest = rw e (let there : position_or_len p xs < length xs = rest (rw e at h) in omega arith)

pub place-missing : {X : Type 0} (p : X → Bool) (names : List X) → list_any p names ≡ false → position_or_len p names ≡ length names
place-missing p [] h = refl
place-missing p (x ∷ xs) h = by (p x) refl (place-missing p xs)
  where
    by : (b : Bool) → p x ≡ b → (list_any p xs ≡ false → position_or_len p xs ≡ length xs) → position_or_len p (x ∷ xs) ≡ length (x ∷ xs)
    by true e rest = absurd (true≢false (rw e at h))
    by false e rest = rw e (let missing : position_or_len p xs ≡ length xs = rest (rw e at h) in omega arith)

-- a place stays where more names come behind
pub place-kept : {X : Type 0} (p : X → Bool) (names more : List X) → position_or_len p names < length names → position_or_len p (names ++ more) ≡ position_or_len p names
place-kept p [] more h = absurd (omega arith)
place-kept p (x ∷ xs) more h = by (p x) refl (place-kept p xs more)
  where
    by : (b : Bool) → p x ≡ b → (position_or_len p xs < length xs → position_or_len p (xs ++ more) ≡ position_or_len p xs) → position_or_len p (x ∷ (xs ++ more)) ≡ position_or_len p (x ∷ xs)
    by true e rest = rw e refl
    by false e rest = rw e (let there : position_or_len p xs < length xs = (let k = rw e at h in omega (arith, k)) in ap (λ n. 1 + n) (rest there))

-- the name at a text's place is the text
pub text_at_place : (names : List Text) (text d : Text) → place_of names text < length names → get_or names (place_of names text) d ≡ text
unfolding place_of
text_at_place names text d h = sym ((bytes_decides text _).0 (passes_at_first (bytes_eq text) names d h))

-- names with a text that was found among them, and with one that wasn't
picked : (b : Bool) (n i : ℕ) → cond b (Some n) None ≡ Some i → i ≡ n
picked true n i e = cc
picked false n i e = cc

pub found_text : {X : Type 0} (f : X → Text) (keys : List X) (text : Text) (i : ℕ) → position (λ x. bytes_eq text (f x)) keys ≡ Some i → list_any (λ x. bytes_eq text (f x)) keys ≡ true
    → (map f keys ≡ with_text (map f keys) text) × (i ≡ place_of (map f keys) text)
unfolding with_text place_of
found_text f keys text i at there = (rw (← list_any-map f (bytes_eq text) keys, there) refl, picked _ _ i at ∙ position_or_len-map f (bytes_eq text) keys)

either : (b : Bool) (n : ℕ) → n ≡ cond b (n + 0) n
either true n = omega arith
either false n = refl

-- the place of a text that isn't there
pub missing_text : {X : Type 0} (f : X → Text) (keys : List X) (text : Text) → list_any (λ x. bytes_eq text (f x)) keys ≡ false → length keys ≡ place_of (map f keys) text
unfolding place_of
missing_text f keys text missing = sym (length-map keys f) ∙ sym (place-missing (bytes_eq text) (map f keys) (sym (list_any-map f (bytes_eq text) keys) ∙ missing))

-- a new text stands behind the names
pub at_its_end : (names : List Text) (text : Text) → list_any (bytes_eq text) names ≡ false → position_or_len (bytes_eq text) (names ++ text ∷ []) ≡ length names
at_its_end names text gone = rw (position_or_len_push (bytes_eq text) names text, place-missing (bytes_eq text) names gone, (bytes_decides text text).1 refl) (sym (either (eqb (length names) (length names)) (length names)))

pub new_text : {X : Type 0} (f : X → Text) (keys : List X) (key : X) (text : Text) → f key ≡ text → list_any (λ x. bytes_eq text (f x)) keys ≡ false
    → (map f (if list_any (λ x. bytes_eq (f key) (f x)) keys then keys else keys ++ key ∷ []) ≡ with_text (map f keys) text) × (length keys ≡ place_of (with_text (map f keys) text) text)
unfolding with_text place_of
new_text f keys key text same missing =
    let gone : list_any (bytes_eq text) (map f keys) ≡ false = sym (list_any-map f (bytes_eq text) keys) ∙ missing in
    (rw (same, missing, gone, map_push f keys key, same) refl, rw gone (sym (length-map keys f) ∙ sym (at_its_end (map f keys) text gone)))

-- the place of a text that stands among distinct names
pub place_at : (names : List Text) (i : ℕ) (d : Text) → AreDistinct names → i < length names → place_of names (get_or names i d) ≡ i
unfolding place_of IsDistinct
place_at [] i d h lt = absurd (omega arith)
place_at (x ∷ xs) zero d h lt = rw ((bytes_decides x x).1 refl) refl
place_at (x ∷ xs) (suc i) d h lt = let next : 1 + i ≡ suc i = omega arith in rw (other xs i (omega arith) h.0) (ap (λ n. 1 + n) (place_at xs i d h.1 (omega arith)) ∙ next)
  where
    other : (ys : List Text) (k : ℕ) → k < length ys → AllByRecursion (λ y. bytes_eq x y ≡ false) ys → bytes_eq (get_or ys k d) x ≡ false
    other [] k lt all = absurd (omega arith)
    other (y ∷ ys) zero lt all = by (bytes_eq y x) refl
      where
        by : (b : Bool) → bytes_eq y x ≡ b → bytes_eq y x ≡ false
        by true e = absurd (true≢false (sym ((bytes_decides x y).1 (sym ((bytes_decides y x).0 e))) ∙ all.0))
        by false e = e
    other (y ∷ ys) (suc k) lt all = other ys k (omega arith) all.1

-- each of distinct names is new behind any of those before it
pub is_new : (names : List Text) (seen place : ℕ) → AreDistinct names → seen ≤ place → place < length names → list_any (bytes_eq (get_or names place [])) (take seen names) ≡ false
unfolding place_of
is_new names seen place distinct le lt = by (list_any (bytes_eq (get_or names place [])) (take seen names)) refl
  where
    by : (b : Bool) → list_any (bytes_eq (get_or names place [])) (take seen names) ≡ b → b ≡ false
    by false e = refl
    by true e =
        let front = take seen names in
        let t = get_or names place [] in
        let size : length front ≡ seen = length-take-le seen names (omega (arith, le, lt)) in
        let below : position_or_len (bytes_eq t) front < length front = place-there (bytes_eq t) front e in
        let kept : position_or_len (bytes_eq t) (front ++ drop seen names) ≡ position_or_len (bytes_eq t) front = place-kept (bytes_eq t) front (drop seen names) below in
        let whole : position_or_len (bytes_eq t) (front ++ drop seen names) ≡ position_or_len (bytes_eq t) names = ap (position_or_len (bytes_eq t)) (take-append-drop seen names) in
        let here : position_or_len (bytes_eq t) names ≡ place = place_at names place [] distinct lt in
        absurd (omega (arith, size, below, kept, whole, here, le))

-- so there its place is how many these are
pub new_place : (names : List Text) (seen place : ℕ) → AreDistinct names → seen ≤ place → place < length names
    → place_of (with_text (take seen names) (get_or names place [])) (get_or names place []) ≡ seen
unfolding with_text place_of
new_place names seen place distinct le lt =
    let t = get_or names place [] in
    let new : list_any (bytes_eq t) (take seen names) ≡ false = is_new names seen place distinct le lt in
    rw new (at_its_end (take seen names) t new ∙ length-take-le seen names (omega (arith, le, lt)))

-- a text whose place is behind the names is new
pub text_is_new : (names : List Text) (t : Text) (code : ℕ) → code ≡ place_of (with_text names t) t → code ≡ length names → with_text names t ≡ names ++ t ∷ []
unfolding with_text place_of
text_is_new names t code is end = by (list_any (bytes_eq t) names) refl
  where
    by : (b : Bool) → list_any (bytes_eq t) names ≡ b → with_text names t ≡ names ++ t ∷ []
    by true e =
        let below : position_or_len (bytes_eq t) names < length names = place-there (bytes_eq t) names e in
        let same : code ≡ position_or_len (bytes_eq t) names = rw e at is in
        absurd (omega (arith, below, same, end))
    by false e = rw e refl

-- ---- texts of which the first are packed

-- the place of a text that stands among the first
pub place_first : (p : Text → Bool) (packed texts : List Text) (i : ℕ) → position p packed ≡ Some i → (i ≡ position_or_len p (packed ++ texts)) × (i < length (packed ++ texts))
place_first p packed texts i at =
    let found = position-Some p packed i [] at in
    let whole : length (packed ++ texts) ≡ length packed + length texts = length-append packed texts in
    let here : p (get_or (packed ++ texts) i []) ≡ true = ap p (get_or_append_left packed texts [] i found.0) ∙ found.1 in (
      sym (position_or_len_is p (packed ++ texts) i [] (omega (arith, found.0, whole)) (λ k lt. ap p (get_or_append_left packed texts [] k (omega (arith, found.0, lt))) ∙ found.2 k lt) (λ _. here)),
      omega (arith, found.0, whole),
    )

-- a test that none of a list passes
none_there : (p : Text → Bool) (names : List Text) → position p names ≡ None → list_any p names ≡ false
none_there p names none = by (list_any p names) refl
  where
    by : (b : Bool) → list_any p names ≡ b → b ≡ false
    by true e = let there : ltb (position_or_len p names) (length names) ≡ true = lt-ltb _ _ (place-there p names e) in absurd (none-some (position_or_len p names) (sym (rw there at none)))
    by false e = refl

place_past : (p : Text → Bool) (packed texts : List Text) → list_any p packed ≡ false → position_or_len p (packed ++ texts) ≡ length packed + position_or_len p texts
place_past p [] texts none = omega arith
place_past p (x ∷ xs) texts none = by (p x) refl (place_past p xs texts)
  where
    by : (b : Bool) → p x ≡ b → (list_any p xs ≡ false → position_or_len p (xs ++ texts) ≡ length xs + position_or_len p texts) → position_or_len p (x ∷ (xs ++ texts)) ≡ length (x ∷ xs) + position_or_len p texts
    by true e rest = absurd (true≢false (rw e at none))
    by false e rest = rw e (let past : position_or_len p (xs ++ texts) ≡ length xs + position_or_len p texts = rest (rw e at none) in omega (arith, past))

-- and the place of one that stands behind them
pub place_behind : (p : Text → Bool) (packed texts : List Text) → position p packed ≡ None → position_or_len p (packed ++ texts) ≡ length packed + position_or_len p texts
place_behind p packed texts none = place_past p packed texts (none_there p packed none)

pub found_behind : {X : Type 0} (f : X → Text) (packed : List Text) (keys : List X) (text : Text) (i : ℕ) → position (bytes_eq text) packed ≡ None → position (λ x. bytes_eq text (f x)) keys ≡ Some i
    → list_any (λ x. bytes_eq text (f x)) keys ≡ true → length packed + i ≡ place_of (packed ++ map f keys) text
unfolding place_of
found_behind f packed keys text i none at there = (λ j. length packed + (found_text f keys text i at there).1 j) ∙ sym (place_behind (bytes_eq text) packed (map f keys) none)

pub found_nowhere : {X : Type 0} (f : X → Text) (packed : List Text) (keys : List X) (text : Text) → position (bytes_eq text) packed ≡ None → list_any (λ x. bytes_eq text (f x)) keys ≡ false
    → place_of (packed ++ map f keys) text ≡ length (packed ++ map f keys)
unfolding place_of
found_nowhere f packed keys text none missing =
    place_behind (bytes_eq text) packed (map f keys) none
    ∙ ((λ j. length packed + sym (missing_text f keys text missing) j) ∙ rw (length-append packed (map f keys), length-map keys f) refl)

-- a text whose place is behind all names is none of them
none_at_the_end : (p : Text → Bool) (names : List Text) → position_or_len p names ≡ length names → list_any p names ≡ false
none_at_the_end p names end = by (list_any p names) refl
  where
    by : (b : Bool) → list_any p names ≡ b → b ≡ false
    by true e = absurd (omega (arith, end, place-there p names e))
    by false e = refl

-- a new text goes last
pub goes_last : {X : Type 0} (f : X → Text) (packed : List Text) (keys : List X) (key : X) (text : Text) → f key ≡ text → place_of (packed ++ map f keys) text ≡ length (packed ++ map f keys)
    → packed ++ map f (if list_any (λ x. bytes_eq (f key) (f x)) keys then keys else keys ++ key ∷ []) ≡ with_text (packed ++ map f keys) text
unfolding with_text place_of
goes_last f packed keys key text same end =
    let missing : list_any (bytes_eq text) (packed ++ map f keys) ≡ false = none_at_the_end (bytes_eq text) (packed ++ map f keys) end in
    let gone : list_any (bytes_eq text) (map f keys) ≡ false = (or_parts _ _ (sym (list_any-append (bytes_eq text) packed (map f keys)) ∙ missing)).1 in
    let none : list_any (λ x. bytes_eq text (f x)) keys ≡ false = list_any-map f (bytes_eq text) keys ∙ gone in
    rw (same, none, missing, map_push f keys key, same) (sym (append_assoc packed (map f keys) (text ∷ [])))

pub has_its_place : (names : List Text) (text : Text) → place_of names text ≡ length names → length names ≡ place_of (with_text names text) text
unfolding with_text place_of
has_its_place names text end =
    let missing : list_any (bytes_eq text) names ≡ false = none_at_the_end (bytes_eq text) names end in
    rw missing (sym (at_its_end names text missing))

pub stays_distinct : (names : List Text) (text : Text) → AreDistinct names → AreDistinct (with_text names text)
unfolding with_text
stays_distinct names text h = by (list_any (bytes_eq text) names) refl
  where
    by : (b : Bool) → list_any (bytes_eq text) names ≡ b → AreDistinct (with_text names text)
    by true e = rw e h
    by false e = rw e (IsDistinct-push nat_list_eq_equiv names text h e)

-- one more text behind the packed ones
pub one_more : {X : Type 0} (f : X → Text) (packed : List Text) (xs : List X) (i : ℕ) (x : X) (text : Text) (before now : List Text) → i < length xs → x ≡ get_or xs i x → text ≡ f x
    → before ≡ packed ++ take i (map f xs) → now ≡ before ++ text ∷ [] → now ≡ packed ++ take (i + 1) (map f xs)
one_more f packed xs i x text before now lt is same so_far pushed =
    let texts = map f xs in
    let here : text ≡ get_or texts i [] = same ∙ (ap f is ∙ sym (get_or-map f xs i x [] lt)) in
    let next : take i texts ++ get_or texts i [] ∷ [] ≡ take (i + 1) texts = sym (take_more texts i [] (rw (length-map xs f) lt)) in
    pushed ∙ ((λ j. so_far j ++ here j ∷ []) ∙ (append_assoc packed (take i texts) (get_or texts i [] ∷ []) ∙ ap (λ ys. packed ++ ys) next))
