-- Lists that are read one by one, and what they state.
use Rattle.std.proofs.Common.{◌≡◌, ◌+◌, ◌<◌, ℕ, ℤ, zero, suc, List, [], ◌∷◌, ◌++◌, length, map, get_or, take, refl, sym, ap, ◌∙◌, arith, subst}
use Rattle.std.specs.List.{All, AllZip}
use Rattle.std.proofs.lemmas.List.{take_more, map-append}
use Rattle.std.proofs.lemmas.List.Elements.{All-append}
use Rattle.toml.specs.Data.{Data, Members, string, integer, table, array}
use Rattle.fw_toml.specs.Tree.{IsText, IsTableOf, IsArrayOf, AreTexts, AreTables, AreIntegers, AreNamedTexts, Anything, items_list, members_list}
use Rattle.fw_toml.proofs.Readings.{text, all_map}

-- ---- lists

pub all-one : {X : Type 0} (P : X → Type 0) (x : X) → P x → All P (x ∷ [])
all-one P x here zero d lt = here
all-one P x here (suc j) d lt = absurd (omega arith)

pub all-more : {X : Type 0} (P : X → Type 0) (xs : List X) (x : X) → All P xs → P x → All P (xs ++ x ∷ [])
all-more P xs x all here = All-append P xs (x ∷ []) all (all-one P x here)

pub all-none : {X : Type 0} (P : X → Type 0) → All P []
all-none P k d lt = absurd (omega arith)

pub zip-more : {X Y : Type 0} (R : X → Y → Type 0) (xs : List X) (ys : List Y) (x : X) (y : Y) → AllZip R xs ys → R x y → AllZip R (xs ++ x ∷ []) (ys ++ y ∷ [])
zip-more R [] [] x y are here = (here, tt)
zip-more R [] (z ∷ ys) x y are here = absurd are
zip-more R (w ∷ xs) [] x y are here = absurd are
zip-more R (w ∷ xs) (z ∷ ys) x y are here = (are.0, zip-more R xs ys x y are.1 here)

-- the element at a place has a partner
pub zip-at : {X Y : Type 0} (R : X → Y → Type 0) (xs : List X) (ys : List Y) (i : ℕ) (d : X) → AllZip R xs ys → i < length xs → (y : Y) × R (get_or xs i d) y
zip-at R [] ys i d are lt = absurd (omega arith)
zip-at R (x ∷ xs) [] i d are lt = absurd are
zip-at R (x ∷ xs) (y ∷ ys) zero d are lt = (y, are.0)
zip-at R (x ∷ xs) (y ∷ ys) (suc i) d are lt = zip-at R xs ys i d are.1 (omega arith)

pub map-more : {A B : Type 0} (f : A → B) (xs : List A) (i : ℕ) (d : A) → i < length xs → map f (take (i + 1) xs) ≡ map f (take i xs) ++ f (get_or xs i d) ∷ []
map-more f xs i d lt = ap (map f) (take_more xs i d lt) ∙ map-append f (take i xs) (get_or xs i d ∷ [])

-- what is seen at a place of one list is seen of an element of the other
pub map-at : {A B D : Type 0} (f : A → D) (g : B → D) (P : B → Type 0) (xs : List A) (ys : List B) (i : ℕ) (d : A) → map f xs ≡ map g ys → All P ys → i < length xs
    → (y : B) × (f (get_or xs i d) ≡ g y) × P y
map-at f g P [] ys i d same all lt = absurd (omega arith)
map-at f g P (x ∷ xs) [] i d same all lt = absurd (cc)
map-at f g P (x ∷ xs) (y ∷ ys) zero d same all lt = let here : f x ≡ g y = cc in (y, here, all 0 y (omega arith))
map-at f g P (x ∷ xs) (y ∷ ys) (suc i) d same all lt =
    let rest : map f xs ≡ map g ys = cc in
    map-at f g P xs ys i d rest (λ k e within. all (suc k) e (omega arith)) (omega arith)

pub map-one : {A B : Type 0} (f : A → B) → ((x y : A) → f x ≡ f y → x ≡ y) → (xs ys : List A) → map f xs ≡ map f ys → xs ≡ ys
map-one f one [] [] same = refl
map-one f one [] (y ∷ ys) same = absurd (cc)
map-one f one (x ∷ xs) [] same = absurd (cc)
map-one f one (x ∷ xs) (y ∷ ys) same =
    let first : f x ≡ f y = cc in let rest : map f xs ≡ map f ys = cc in
    rw (one x y first, map-one f one xs ys rest) refl

pub zip-one : {X Y : Type 0} (R : X → Y → Type 0) → ((x : X) (y z : Y) → R x y → R x z → y ≡ z) → (xs : List X) (ys zs : List Y) → AllZip R xs ys → AllZip R xs zs → ys ≡ zs
zip-one R one [] [] [] a b = refl
zip-one R one [] [] (z ∷ zs) a b = absurd b
zip-one R one [] (y ∷ ys) zs a b = absurd a
zip-one R one (x ∷ xs) [] zs a b = absurd a
zip-one R one (x ∷ xs) (y ∷ ys) [] a b = absurd b
zip-one R one (x ∷ xs) (y ∷ ys) (z ∷ zs) a b = rw (one x y z a.0 b.0, zip-one R one xs ys zs a.1 b.1) refl

-- ---- a value states one list of a kind

string-one : (a b : List ℕ) → string a ≡ string b → a ≡ b
string-one a b e = cc

table-one : (a b : Members) → table a ≡ table b → a ≡ b
table-one a b e = cc

pair-one : {X : Type 0} (f : X → Data) → ((x y : X) → f x ≡ f y → x ≡ y) → (a b : List ℕ × X) → ◌≡◌ {A = List ℕ × Data} (a.0, f a.1) (b.0, f b.1) → a ≡ b
pair-one f one a b e = let names = ap (λ p. p.0) e in let values_ = one a.1 b.1 (ap (λ p. p.1) e) in rw (names, values_) refl

integer-one : (a b : ℤ) → integer a ≡ integer b → a ≡ b
integer-one a b e = cc

pub texts-one : (d : Data) (ts us : List (List ℕ)) → AreTexts ts d → AreTexts us d → ts ≡ us
unfolding AreTexts IsArrayOf
texts-one d ts us (ds, is, items) (es, same, others) =
    let both : array ds ≡ array es = sym is ∙ same in let arrays : ds ≡ es = cc in
    map-one string string-one ts us (sym items ∙ ap items_list arrays ∙ others)

pub tables-one : (d : Data) (ts us : List Members) → AreTables ts d → AreTables us d → ts ≡ us
unfolding AreTables IsArrayOf
tables-one d ts us (ds, is, items) (es, same, others) =
    let both : array ds ≡ array es = sym is ∙ same in let arrays : ds ≡ es = cc in
    map-one table table-one ts us (sym items ∙ ap items_list arrays ∙ others)

pub integers-one : (d : Data) (ts us : List (List ℕ × ℤ)) → AreIntegers ts d → AreIntegers us d → ts ≡ us
unfolding AreIntegers IsTableOf
integers-one d ts us (ms, is, members) (ns, same, others) =
    let both : table ms ≡ table ns = sym is ∙ same in let tables : ms ≡ ns = cc in
    map-one (λ z. (z.0, integer z.1)) (pair-one integer integer-one) ts us (sym members ∙ ap members_list tables ∙ others)

pub named_texts-one : (d : Data) (ts us : List (List ℕ × List ℕ)) → AreNamedTexts ts d → AreNamedTexts us d → ts ≡ us
unfolding AreNamedTexts IsTableOf
named_texts-one d ts us (ms, is, members) (ns, same, others) =
    let both : table ms ≡ table ns = sym is ∙ same in let tables : ms ≡ ns = cc in
    map-one (λ z. (z.0, string z.1)) (pair-one string string-one) ts us (sym members ∙ ap members_list tables ∙ others)

-- ---- texts in an array, and in a table

pub texts_are : (d : Data) (ts : List (List ℕ)) → AreTexts ts d → IsArrayOf (All (IsText Anything)) d
unfolding AreTexts IsArrayOf Anything
texts_are d ts (ds, is, items) = (ds, is, subst (All (IsText Anything)) (sym items) (all_map (IsText Anything) string ts (λ k e lt. text Anything _ _ refl tt)))

pub named_texts_are : (d : Data) (ts : List (List ℕ × List ℕ)) → AreNamedTexts ts d → IsTableOf (λ ms. All (λ m. IsText Anything m.1) (members_list ms)) d
unfolding AreNamedTexts IsTableOf Anything
named_texts_are d ts (ms, is, members) =
    (ms, is, subst (All (λ m. IsText Anything m.1)) (sym members) (all_map (λ m. IsText Anything m.1) (λ z. (z.0, string z.1)) ts (λ k e lt. text Anything _ _ refl tt)))

-- ---- a list that grows by one for each element of another

pub grown : {A B D : Type 0} (f : A → D) (g : B → D) (xs : List A) (i : ℕ) (d : A) (ys zs : List B) (y : B) → i < length xs → map g ys ≡ map f (take i xs) → zs ≡ ys ++ y ∷ [] → g y ≡ f (get_or xs i d)
    → map g zs ≡ map f (take (i + 1) xs)
grown f g xs i d ys zs y lt same more is =
    ap (map g) more ∙ (map-append g ys (y ∷ []) ∙ (ap (λ t. t ++ g y ∷ []) same ∙ (ap (λ v. map f (take i xs) ++ v ∷ []) is ∙ sym (map-more f xs i d lt))))

pub grown-plain : {A D : Type 0} (f : A → D) (xs : List A) (i : ℕ) (d : A) (ys zs : List D) (y : D) → i < length xs → ys ≡ map f (take i xs) → zs ≡ ys ++ y ∷ [] → y ≡ f (get_or xs i d) → zs ≡ map f (take (i + 1) xs)
grown-plain f xs i d ys zs y lt same more is =
    more ∙ (ap (λ t. t ++ y ∷ []) same ∙ (ap (λ v. map f (take i xs) ++ v ∷ []) is ∙ sym (map-more f xs i d lt)))

pub grown-take : {A B : Type 0} (g : B → A) (xs : List A) (i : ℕ) (d : A) (ys zs : List B) (y : B) → i < length xs → map g ys ≡ take i xs → zs ≡ ys ++ y ∷ [] → g y ≡ get_or xs i d → map g zs ≡ take (i + 1) xs
grown-take g xs i d ys zs y lt same more is =
    ap (map g) more ∙ (map-append g ys (y ∷ []) ∙ (ap (λ t. t ++ g y ∷ []) same ∙ (ap (λ v. take i xs ++ v ∷ []) is ∙ sym (take_more xs i d lt))))

pub all-grown : {X : Type 0} (P : X → Type 0) (xs zs : List X) (x : X) → zs ≡ xs ++ x ∷ [] → All P xs → P x → All P zs
all-grown P xs zs x more all here = subst (All P) (sym more) (all-more P xs x all here)

pub map-map : {A B D : Type 0} (f : B → D) (g : A → B) (xs : List A) → map f (map g xs) ≡ map (λ x. f (g x)) xs
map-map f g [] = refl
map-map f g (x ∷ xs) = ap (λ t. f (g x) ∷ t) (map-map f g xs)

pub zip-at-map : {A X Y : Type 0} (R : X → Y → Type 0) (f : A → X) (xs : List A) (ys : List Y) (i : ℕ) (d : A) → AllZip R (map f xs) ys → i < length xs → (y : Y) × R (f (get_or xs i d)) y
zip-at-map R f [] ys i d are lt = absurd (omega arith)
zip-at-map R f (x ∷ xs) [] i d are lt = absurd are
zip-at-map R f (x ∷ xs) (y ∷ ys) zero d are lt = (y, are.0)
zip-at-map R f (x ∷ xs) (y ∷ ys) (suc i) d are lt = zip-at-map R f xs ys i d are.1 (omega arith)
