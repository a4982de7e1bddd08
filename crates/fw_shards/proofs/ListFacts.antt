-- Lists of lists, put together in one way or another.
use Rattle.std.proofs.Common.{◌≡◌, ◌∙◌, ℕ, zero, suc, ◌+◌, ◌-◌, ◌≤◌, ◌<◌, ◌==◌, ◌&&◌, Bool, true, false, cond, nat_le, nat_lt, All, List, [], ◌∷◌, ◌++◌, filter, refl, sym, ap, subst, append_assoc, append-nil, arith}
use Rattle.std.specs.List.{flat_map, range_with_len}
use Rattle.std.specs.List.Sorted.{IsPermutation}
use Rattle.std.proofs.lemmas.Bool.Decides.{nat_tests}
use Rattle.std.proofs.lemmas.List.Sorted.{IsPermutation-append, IsPermutation-append_comm, IsPermutation-append_left, IsPermutation-append_right, IsPermutation-refl, IsPermutation-trans}
use Rattle.std.proofs.lemmas.List.Elements.{All-head, All-tail}

pub two_ways : (b : Bool) {G : Type 0} → (b ≡ true → G) → (b ≡ false → G) → G
two_ways true holds fails = holds refl
two_ways false holds fails = fails refl

pub same_permutation : {X : Type 0} (xs ys : List X) → xs ≡ ys → IsPermutation xs ys
same_permutation xs ys e = subst (IsPermutation xs) e (IsPermutation-refl xs)

-- ---- over hours in turn
pub flat_same : {Y : Type 0} (f g : ℕ → List Y) (from n : ℕ) → ((h : ℕ) → from ≤ h → h < from + n → f h ≡ g h) → flat_map f (range_with_len from n) ≡ flat_map g (range_with_len from n)
flat_same f g from zero same = refl
flat_same f g from (suc n) same =
    let first : f from ≡ g from = same from (omega arith) (omega arith) in
    let rest : flat_map f (range_with_len (from + 1) n) ≡ flat_map g (range_with_len (from + 1) n) =
    flat_same f g (from + 1) n (λ h low high. same h (omega arith) (omega arith)) in
    ap (λ l. l ++ flat_map f (range_with_len (from + 1) n)) first ∙ ap (λ l. g from ++ l) rest

pub flat_alike : {Y : Type 0} (f g : ℕ → List Y) (from n : ℕ) → ((h : ℕ) → from ≤ h → h < from + n → IsPermutation (f h) (g h)) → IsPermutation (flat_map f (range_with_len from n)) (flat_map g (range_with_len from n))
flat_alike f g from zero same = IsPermutation-refl []
flat_alike f g from (suc n) same =
    IsPermutation-append (f from) (g from) (flat_map f (range_with_len (from + 1) n)) (flat_map g (range_with_len (from + 1) n))
    (same from (omega arith) (omega arith))
    (flat_alike f g (from + 1) n (λ h low high. same h (omega arith) (omega arith)))

-- what stands at the hours from a up to, and not including, b, where it is asked for hours around these
abbrev pub between : {Y : Type 0} → ℕ → ℕ → (ℕ → List Y) → ℕ → List Y
between a b f h = cond (nat_le a h && nat_lt h b) (f h) []

nothing_before : (a b h : ℕ) → h < a → (nat_le a h && nat_lt h b) ≡ false
nothing_before a b h low = grind (arith, nat_tests)

nothing_behind : (a b h : ℕ) → b ≤ h → (nat_le a h && nat_lt h b) ≡ false
nothing_behind a b h high = grind (arith, nat_tests)

is_between : (a b h : ℕ) → a ≤ h → h < b → (nat_le a h && nat_lt h b) ≡ true
is_between a b h low high = grind (arith, nat_tests)

next_between : (a b h : ℕ) → a + 1 ≤ h → (nat_le a h && nat_lt h b) ≡ (nat_le (a + 1) h && nat_lt h b)
next_between a b h low = grind (arith, nat_tests)

pub flat_between : {Y : Type 0} (f : ℕ → List Y) (a b from n : ℕ) → from ≤ a → b ≤ from + n → flat_map (between a b f) (range_with_len from n) ≡ flat_map f (range_with_len a (b - a))
flat_between f a b from zero low high =
    let none : b - a ≡ 0 = omega arith in
    ap (λ k. flat_map f (range_with_len a k)) (sym none)
flat_between f a b from (suc n) low high = two_ways (nat_lt from a)
    (λ early.
    let less : from < a = grind (arith, nat_tests) in
    ap (λ t. cond t (f from) [] ++ flat_map (between a b f) (range_with_len (from + 1) n)) (nothing_before a b from less)
    ∙ flat_between f a b (from + 1) n (omega arith) (omega arith))
    (λ late.
    let same : from ≡ a = grind (arith, nat_tests) in
    let tail : flat_map (between a b f) (range_with_len (from + 1) n) ≡ flat_map f (range_with_len (a + 1) (b - (a + 1))) =
    flat_same (between a b f) (between (a + 1) b f) (from + 1) n (λ h more less. ap (λ t. cond t (f h) []) (next_between a b h (omega arith)))
    ∙ flat_between f (a + 1) b (from + 1) n (omega arith) (omega arith) in
    two_ways (nat_lt a b)
    (λ some.
    let inside : a < b = grind (arith, nat_tests) in
    let more : b - a ≡ suc (b - (a + 1)) = omega arith in
    ap (λ t. cond t (f from) [] ++ flat_map (between a b f) (range_with_len (from + 1) n)) (is_between a b from (omega arith) (omega arith))
    ∙ ap (λ l. f from ++ l) tail
    ∙ ap (λ k. f k ++ flat_map f (range_with_len (a + 1) (b - (a + 1)))) same
    ∙ ap (λ k. flat_map f (range_with_len a k)) (sym more))
    (λ none.
    let outside : b ≤ a = grind (arith, nat_tests) in
    let nil : b - a ≡ 0 = omega arith in
    let less : b - (a + 1) ≡ 0 = omega arith in
    ap (λ t. cond t (f from) [] ++ flat_map (between a b f) (range_with_len (from + 1) n)) (nothing_behind a b from (omega arith))
    ∙ tail ∙ ap (λ k. flat_map f (range_with_len (a + 1) k)) less ∙ ap (λ k. flat_map f (range_with_len a k)) (sym nil)))

-- ---- two ways to put lists together
move : {Y : Type 0} (a b c d : List Y) → IsPermutation ((a ++ b) ++ (c ++ d)) ((a ++ c) ++ (b ++ d))
move a b c d =
    let inner : IsPermutation (b ++ (c ++ d)) (c ++ (b ++ d)) =
    subst (λ l. IsPermutation l (c ++ (b ++ d))) (append_assoc b c d)
    (subst (IsPermutation ((b ++ c) ++ d)) (append_assoc c b d) (IsPermutation-append_left d (b ++ c) (c ++ b) (IsPermutation-append_comm b c))) in
    subst (λ l. IsPermutation l ((a ++ c) ++ (b ++ d))) (sym (append_assoc a b (c ++ d)))
    (subst (IsPermutation (a ++ (b ++ (c ++ d)))) (sym (append_assoc a c (b ++ d))) (IsPermutation-append_right a (b ++ (c ++ d)) (c ++ (b ++ d)) inner))

pub flat_both : {X Y : Type 0} (f g : X → List Y) (xs : List X) → IsPermutation (flat_map (λ x. f x ++ g x) xs) (flat_map f xs ++ flat_map g xs)
flat_both f g [] = IsPermutation-refl []
flat_both f g (x ∷ xs) =
    IsPermutation-trans ((f x ++ g x) ++ flat_map (λ y. f y ++ g y) xs) ((f x ++ g x) ++ (flat_map f xs ++ flat_map g xs)) ((f x ++ flat_map f xs) ++ (g x ++ flat_map g xs))
    (IsPermutation-append_right (f x ++ g x) (flat_map (λ y. f y ++ g y) xs) (flat_map f xs ++ flat_map g xs) (flat_both f g xs))
    (move (f x) (g x) (flat_map f xs) (flat_map g xs))

flat_nothing : {X Y : Type 0} (xs : List X) → [] ≡ flat_map (λ (x : X). let none : List Y = [] in none) xs
flat_nothing [] = refl
flat_nothing (x ∷ xs) = flat_nothing xs

-- by one and then by the other, in either order
pub flat_swap : {A H Y : Type 0} (f : A → H → List Y) (xs : List A) (hs : List H) → IsPermutation (flat_map (λ x. flat_map (f x) hs) xs) (flat_map (λ h. flat_map (λ x. f x h) xs) hs)
flat_swap f xs [] = same_permutation _ _ (sym (flat_nothing xs))
flat_swap f xs (h ∷ hs) =
    IsPermutation-trans (flat_map (λ x. f x h ++ flat_map (f x) hs) xs) (flat_map (λ x. f x h) xs ++ flat_map (λ x. flat_map (f x) hs) xs) (flat_map (λ x. f x h) xs ++ flat_map (λ k. flat_map (λ x. f x k) xs) hs)
    (flat_both (λ x. f x h) (λ x. flat_map (f x) hs) xs)
    (IsPermutation-append_right (flat_map (λ x. f x h) xs) (flat_map (λ x. flat_map (f x) hs) xs) (flat_map (λ k. flat_map (λ x. f x k) xs) hs) (flat_swap f xs hs))

-- of those that pass a test alone
pub flat_passing : {X Y : Type 0} (p : X → Bool) (f : X → List Y) (xs : List X) → flat_map (λ x. cond (p x) (f x) []) xs ≡ flat_map f (filter p xs)
flat_passing p f [] = refl
flat_passing p f (x ∷ xs) = two_ways (p x)
    (λ holds. rw holds (ap (λ l. f x ++ l) (flat_passing p f xs)))
    (λ fails. rw fails (flat_passing p f xs))

-- ---- items that are dealt by a number, and what each brings
number_out : {X Y : Type 0} (f : X → List Y) (o : X → ℕ) (from n : ℕ) (x : X) (xs : List X) → o x < from
    → flat_map (λ k. flat_map f (filter (λ y. o y == k) (x ∷ xs))) (range_with_len from n) ≡ flat_map (λ k. flat_map f (filter (λ y. o y == k) xs)) (range_with_len from n)
number_out f o from n x xs less =
    flat_same (λ k. flat_map f (filter (λ y. o y == k) (x ∷ xs))) (λ k. flat_map f (filter (λ y. o y == k) xs)) from n
    (λ h low high. let apart : (o x == h) ≡ false = grind (arith, nat_tests) in ap (λ t. flat_map f (cond t (x ∷ filter (λ y. o y == h) xs) (filter (λ y. o y == h) xs))) apart)

number_in : {X Y : Type 0} (f : X → List Y) (o : X → ℕ) (from n : ℕ) (x : X) (xs : List X) → from ≤ o x → o x < from + n
    → IsPermutation (f x ++ flat_map (λ k. flat_map f (filter (λ y. o y == k) xs)) (range_with_len from n)) (flat_map (λ k. flat_map f (filter (λ y. o y == k) (x ∷ xs))) (range_with_len from n))
number_in f o from zero x xs low high = absurd (omega arith)
number_in {X} {Y} f o from (suc n) x xs low high = two_ways (o x == from)
    (λ here.
    let less : o x < from + 1 = grind (arith, nat_tests) in
    let first : List X = filter (λ y. o y == from) xs in
    let rest : List Y = flat_map (λ k. flat_map f (filter (λ y. o y == k) xs)) (range_with_len (from + 1) n) in
    let whole : flat_map f (cond (o x == from) (x ∷ first) first) ++ flat_map (λ k. flat_map f (filter (λ y. o y == k) (x ∷ xs))) (range_with_len (from + 1) n) ≡ f x ++ (flat_map f first ++ rest) =
    ap (λ l. flat_map f (cond (o x == from) (x ∷ first) first) ++ l) (number_out f o (from + 1) n x xs less)
    ∙ ap (λ t. flat_map f (cond t (x ∷ first) first) ++ rest) here
    ∙ append_assoc (f x) (flat_map f first) rest in
    same_permutation _ _ (sym whole))
    (λ later.
    let more : from + 1 ≤ o x = grind (arith, nat_tests) in
    let first : List X = filter (λ y. o y == from) xs in
    let rest : List Y = flat_map (λ k. flat_map f (filter (λ y. o y == k) xs)) (range_with_len (from + 1) n) in
    let with_it : List Y = flat_map (λ k. flat_map f (filter (λ y. o y == k) (x ∷ xs))) (range_with_len (from + 1) n) in
    let whole : flat_map f first ++ with_it ≡ flat_map f (cond (o x == from) (x ∷ first) first) ++ with_it =
    ap (λ t. flat_map f (cond t (x ∷ first) first) ++ with_it) (sym later) in
    let moved : IsPermutation (f x ++ (flat_map f first ++ rest)) (flat_map f first ++ (f x ++ rest)) =
    subst (λ l. IsPermutation l (flat_map f first ++ (f x ++ rest))) (append_assoc (f x) (flat_map f first) rest)
    (subst (IsPermutation ((f x ++ flat_map f first) ++ rest)) (append_assoc (flat_map f first) (f x) rest)
    (IsPermutation-append_left rest (f x ++ flat_map f first) (flat_map f first ++ f x) (IsPermutation-append_comm (f x) (flat_map f first)))) in
    subst (IsPermutation (f x ++ (flat_map f first ++ rest))) whole
    (IsPermutation-trans (f x ++ (flat_map f first ++ rest)) (flat_map f first ++ (f x ++ rest)) (flat_map f first ++ with_it) moved
    (IsPermutation-append_right (flat_map f first) (f x ++ rest) with_it (number_in f o (from + 1) n x xs more (omega arith)))))

pub by_number : {X Y : Type 0} (f : X → List Y) (o : X → ℕ) (n : ℕ) (xs : List X) → All (λ x. o x < n) xs → IsPermutation (flat_map f xs) (flat_map (λ k. flat_map f (filter (λ y. o y == k) xs)) (range_with_len 0 n))
by_number {X} {Y} f o n [] below = same_permutation _ _ (flat_nothing {X = ℕ} {Y = Y} (range_with_len 0 n))
by_number {X} {Y} f o n (x ∷ xs) below =
    let P : X → Type 0 = λ y. o y < n in
    let before : List Y = flat_map (λ k. flat_map f (filter (λ y. o y == k) xs)) (range_with_len 0 n) in
    let low : o x < n = All-head P x xs below in
    IsPermutation-trans (f x ++ flat_map f xs) (f x ++ before) (flat_map (λ k. flat_map f (filter (λ y. o y == k) (x ∷ xs))) (range_with_len 0 n))
    (IsPermutation-append_right (f x) (flat_map f xs) before (by_number f o n xs (All-tail P x xs below)))
    (number_in f o 0 n x xs (omega arith) (omega arith))
