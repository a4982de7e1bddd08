-- A list that is read one by one: what was found so far, and what is left.
use Rattle.std.proofs.Common.{◌≡◌, ℕ, suc, List, [], ◌∷◌, ◌++◌, map, String, Global, string_bytes, Less, nat_cmp, append_assoc, append-nil, subst, refl, sym, ◌∙◌, ap, arith}
use Rattle.std.specs.List.{All, AllByRecursion}
use Rattle.std.specs.List.Sorted.{IsStrictlySortedBy}
use Rattle.std.specs.Cmp.Lexicographic.{slice_cmp}
use Rattle.std.specs.String.{string_cmp}
use Rattle.std.proofs.lemmas.List.{map-append}
use Rattle.toml.specs.Data.{Data, table, array}
use Rattle.toml.specs.View.{view, items_view, members_view}
use Rattle.toml.specs.declared.value.Value.{Value}
use Rattle.fw_toml.specs.Tree.{IsTableOf, IsArrayOf, items_list, members_list}

pub items_list-view : (vs : List Value) → items_list (items_view vs) ≡ map view vs
items_list-view [] = refl
items_list-view (v ∷ vs) = ap (λ ds. view v ∷ ds) (items_list-view vs)

-- an entry of a map as a member
abbrev pub member_of : String Global × Value → List ℕ × Data
member_of e = (string_bytes e.0, view e.1)

pub members_list-view : (es : List (String Global × Value)) → members_list (members_view es) ≡ map member_of es
members_list-view [] = refl
members_list-view (e ∷ es) = ap (λ ms. member_of e ∷ ms) (members_list-view es)

-- the whole, seen by p, is what was found, seen by f, and what is left
pub record Found {A W D : Type 0} (p : A → D) (f : W → D) (whole : List A) (found : List W) (left : List A) : Type 0 where
  pub same : map p whole ≡ map f found ++ map p left

pub found-start : {A W D : Type 0} (p : A → D) (f : W → D) (whole left : List A) → left ≡ whole → Found p f whole [] left
found-start p f whole left same = record { same = ap (map p) (sym same) }

pub found-more : {A W D : Type 0} (p : A → D) (f : W → D) (whole : List A) (found : List W) (left more : List A) (a : A) (w : W) → Found p f whole found left → left ≡ a ∷ more → p a ≡ f w
    → Found p f whole (found ++ w ∷ []) more
found-more p f whole found left more a w so_far next is = record {
  same = so_far.same ∙ (ap (λ t. map f found ++ map p t) next ∙ (ap (λ d. map f found ++ d ∷ map p more) is ∙ (sym (append_assoc (map f found) (f w ∷ []) (map p more)) ∙ ap (λ t. t ++ map p more) (sym (map-append f found (w ∷ []))))));
}

pub found-all : {A W D : Type 0} (p : A → D) (f : W → D) (whole : List A) (found : List W) (left : List A) → Found p f whole found left → left ≡ [] → map p whole ≡ map f found
found-all p f whole found left so_far none = so_far.same ∙ (ap (λ t. map f found ++ map p t) none ∙ append-nil (map f found))

middle : {D : Type 0} (P : D → Type 0) (before : List D) (d : D) (after : List D) → All P (before ++ d ∷ after) → P d
middle P [] d after all = all 0 d (omega arith)
middle P (x ∷ before) d after all = middle P before d after (λ j y lt. all (suc j) y (omega arith))

-- what is left begins with one that is not so
pub found-other : {A W D : Type 0} (p : A → D) (f : W → D) (whole : List A) (found : List W) (left more : List A) (a : A) (P : D → Type 0) → Found p f whole found left → left ≡ a ∷ more → ¬ P (p a) → ¬ All P (map p whole)
found-other p f whole found left more a P so_far next other all =
    let split = so_far.same ∙ ap (λ t. map f found ++ map p t) next in
    other (middle P (map f found) (p a) (map p more) (subst (All P) split all))

pub map-of_map : {A B C : Type 0} (g : B → C) (f : A → B) (xs : List A) → map (λ x. g (f x)) xs ≡ map g (map f xs)
map-of_map g f [] = refl
map-of_map g f (x ∷ xs) = ap (λ t. g (f x) ∷ t) (map-of_map g f xs)

-- ---- an array

abbrev pub FoundItems : {W : Type 0} → (W → Data) → List Value → List W → List Value → Type 0
FoundItems f whole found left = Found view f whole found left

pub items-are : {W T : Type 0} (g : T → Data) (s : W → T) (d : Data) (whole : List Value) (found : List W) (left : List Value) → d ≡ array (items_view whole) → FoundItems (λ w. g (s w)) whole found left → left ≡ []
    → IsArrayOf (λ ds. ds ≡ map g (map s found)) d
unfolding IsArrayOf
items-are g s d whole found left is so_far none =
    (items_view whole, is, items_list-view whole ∙ (found-all view (λ w. g (s w)) whole found left so_far none ∙ map-of_map g s found))

pub items-other : {W : Type 0} (f : W → Data) (P : Data → Type 0) (d : Data) (whole : List Value) (found : List W) (left more : List Value) (v : Value) → d ≡ array (items_view whole) → FoundItems f whole found left → left ≡ v ∷ more → ¬ P (view v)
    → ¬ IsArrayOf (All P) d
unfolding IsArrayOf
items-other f P d whole found left more v is so_far next other (es, same, all) =
    let both : array (items_view whole) ≡ array es = sym is ∙ same in
    let items : items_view whole ≡ es = cc in
    found-other view f whole found left more v P so_far next other (subst (All P) (ap items_list (sym items) ∙ items_list-view whole) all)

-- ---- a table

abbrev pub FoundMembers : {W : Type 0} → (W → List ℕ × Data) → List (String Global × Value) → List W → List (String Global × Value) → Type 0
FoundMembers f whole found left = Found member_of f whole found left

pub members-are : {W T : Type 0} (g : T → List ℕ × Data) (s : W → T) (d : Data) (whole : List (String Global × Value)) (found : List W) (left : List (String Global × Value)) → d ≡ table (members_view whole) → FoundMembers (λ w. g (s w)) whole found left → left ≡ []
    → IsTableOf (λ ms. members_list ms ≡ map g (map s found)) d
unfolding IsTableOf
members-are g s d whole found left is so_far none =
    (members_view whole, is, members_list-view whole ∙ (found-all member_of (λ w. g (s w)) whole found left so_far none ∙ map-of_map g s found))

pub members-other : {W : Type 0} (f : W → List ℕ × Data) (P : List ℕ × Data → Type 0) (d : Data) (whole : List (String Global × Value)) (found : List W) (left more : List (String Global × Value)) (e : String Global × Value)
    → d ≡ table (members_view whole) → FoundMembers f whole found left → left ≡ e ∷ more → ¬ P (member_of e) → ¬ IsTableOf (λ ms. All P (members_list ms)) d
unfolding IsTableOf
members-other f P d whole found left more e is so_far next other (ns, same, all) =
    let both : table (members_view whole) ≡ table ns = sym is ∙ same in
    let members : members_view whole ≡ ns = cc in
    found-other member_of f whole found left more e P so_far next other (subst (All P) (ap members_list (sym members) ∙ members_list-view whole) all)

-- the names of what was found rise, as the keys of the map do
below : (k : String Global) (ks : List (String Global)) → AllByRecursion (λ y. string_cmp k y ≡ Less) ks → AllByRecursion (λ y. slice_cmp nat_cmp (string_bytes k) y ≡ Less) (map string_bytes ks)
below k [] h = tt
below k (y ∷ ks) h = (h.0, below k ks h.1)

rising : (ks : List (String Global)) → IsStrictlySortedBy string_cmp ks → IsStrictlySortedBy (slice_cmp nat_cmp) (map string_bytes ks)
unfolding IsStrictlySortedBy
rising [] h = tt
rising (k ∷ ks) h = (below k ks h.0, rising ks h.1)

names : (es : List (String Global × Value)) → map (λ m. m.0) (map member_of es) ≡ map string_bytes (map (λ e. e.0) es)
names [] = refl
names (e ∷ es) = ap (λ t. string_bytes e.0 ∷ t) (names es)

named_all : {W : Type 0} (f : W → List ℕ × Data) (n : W → List ℕ) (ws : List W) → ((w : W) → (f w).0 ≡ n w) → map (λ m. m.0) (map f ws) ≡ map n ws
named_all f n [] named = refl
named_all f n (w ∷ ws) named = rw (named w, named_all f n ws named) refl

pub members-rise : {W : Type 0} (f : W → List ℕ × Data) (n : W → List ℕ) (whole : List (String Global × Value)) (found : List W) (left : List (String Global × Value)) → ((w : W) → (f w).0 ≡ n w) → FoundMembers f whole found left → left ≡ []
    → IsStrictlySortedBy string_cmp (map (λ e. e.0) whole) → IsStrictlySortedBy (slice_cmp nat_cmp) (map n found)
members-rise f n whole found left named so_far none sorted =
    let same = found-all member_of f whole found left so_far none in
    let texts = sym (names whole) ∙ (ap (map (λ m. m.0)) same ∙ named_all f n found named) in
    subst (IsStrictlySortedBy (slice_cmp nat_cmp)) texts (rising (map (λ e. e.0) whole) sorted)

pub same_member : (n m : List ℕ) (d e : Data) → n ≡ m → d ≡ e → ◌≡◌ {A = List ℕ × Data} (n, d) (m, e)
same_member n m d e names_ data_ = rw (names_, data_) refl
