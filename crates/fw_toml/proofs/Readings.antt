-- What holds of a value whose kind is known. Crates that read documents cite it.
use Rattle.std.proofs.Common.{◌≡◌, ℕ, ℤ, zero, suc, List, [], ◌∷◌, map, get_or, drop, Option, Some, None, refl, sym, ◌∙◌, ap, subst, arith}
use Rattle.std.specs.List.{All}
use Rattle.toml.specs.Data.{Data, Members, string, integer, table}
use Rattle.fw_toml.specs.Tree.{IsTable, IsThere, IsAbsentOr, IsText, IsInteger, IsTableOf, IsArrayOf, AreTables, AreIntegers, Anything, integer_member, members_list, tables_among, tables_of}

-- ---- a value that is there

pub there : (P : Data → Type 0) (o : Option Data) (d : Data) → o ≡ Some d → P d → IsThere o P
unfolding IsThere
there P o d is holds = rw is holds

pub of_there : (P : Data → Type 0) (o : Option Data) (d : Data) → o ≡ Some d → IsThere o P → P d
unfolding IsThere
of_there P o d is h = rw is at h

pub nothing_there : (P : Data → Type 0) (o : Option Data) → o ≡ None → ¬ IsThere o P
unfolding IsThere
nothing_there P o is h = let none = rw is at h in absurd none

pub absent : (P : Data → Type 0) (o : Option Data) → o ≡ None → IsAbsentOr o P
unfolding IsAbsentOr
absent P o is = rw is tt

pub present : (P : Data → Type 0) (o : Option Data) (d : Data) → o ≡ Some d → P d → IsAbsentOr o P
unfolding IsAbsentOr
present P o d is holds = rw is holds

pub of_present : (P : Data → Type 0) (o : Option Data) (d : Data) → o ≡ Some d → IsAbsentOr o P → P d
unfolding IsAbsentOr
of_present P o d is h = rw is at h

-- ---- a text and an integer

pub text : (P : List ℕ → Type 0) (d : Data) (t : List ℕ) → d ≡ string t → P t → IsText P d
unfolding IsText
text P d t is holds = (t, is, holds)

pub of_text : (P : List ℕ → Type 0) (d : Data) (t : List ℕ) → d ≡ string t → IsText P d → P t
unfolding IsText
of_text P d t is (u, same, holds) = let both : string t ≡ string u = sym is ∙ same in let texts : u ≡ t = cc in subst P texts holds

pub whole : (P : ℤ → Type 0) (d : Data) (z : ℤ) → d ≡ integer z → P z → IsInteger P d
unfolding IsInteger
whole P d z is holds = (z, is, holds)

pub of_whole : (P : ℤ → Type 0) (d : Data) (z : ℤ) → d ≡ integer z → IsInteger P d → P z
unfolding IsInteger
of_whole P d z is (w, same, holds) = let both : integer z ≡ integer w = sym is ∙ same in let numbers : w ≡ z = cc in subst P numbers holds

-- a text under a name
pub text_there : (P : List ℕ → Type 0) (o : Option Data) (t : List ℕ) → o ≡ Some (string t) → P t → IsThere o (IsText P)
text_there P o t is holds = there (IsText P) o (string t) is (text P (string t) t refl holds)

pub of_text_there : (P : List ℕ → Type 0) (o : Option Data) (t : List ℕ) → o ≡ Some (string t) → IsThere o (IsText P) → P t
of_text_there P o t is h = of_text P (string t) t refl (of_there (IsText P) o (string t) is h)

-- an integer under a name
pub integer_there : (P : ℤ → Type 0) (o : Option Data) (z : ℤ) → o ≡ Some (integer z) → P z → IsThere o (IsInteger P)
integer_there P o z is holds = there (IsInteger P) o (integer z) is (whole P (integer z) z refl holds)

pub of_integer_there : (P : ℤ → Type 0) (o : Option Data) (z : ℤ) → o ≡ Some (integer z) → IsThere o (IsInteger P) → P z
of_integer_there P o z is h = of_whole P (integer z) z refl (of_there (IsInteger P) o (integer z) is h)

-- ---- lists

pub all_map : {A B : Type 0} (P : B → Type 0) (f : A → B) (xs : List A) → All (λ x. P (f x)) xs → All P (map f xs)
all_map P f [] all k d lt = absurd (omega arith)
all_map P f (x ∷ xs) all zero d lt = all 0 x (omega arith)
all_map P f (x ∷ xs) all (suc k) d lt = all_map P f xs (λ j y within. all (suc j) y (omega arith)) k d (omega arith)

pub of_all_map : {A B : Type 0} (P : B → Type 0) (f : A → B) (xs : List A) → All P (map f xs) → All (λ x. P (f x)) xs
of_all_map P f [] all k d lt = absurd (omega arith)
of_all_map P f (x ∷ xs) all zero d lt = all 0 (f x) (omega arith)
of_all_map P f (x ∷ xs) all (suc k) d lt = of_all_map P f xs (λ j y within. all (suc j) y (omega arith)) k d (omega arith)

-- of the members of a table of integers
pub of_integers : (P : List (List ℕ × Data) → Type 0) (d : Data) (zs : List (List ℕ × ℤ)) → AreIntegers zs d → IsTableOf (λ ms. P (members_list ms)) d → P (map integer_member zs)
unfolding AreIntegers IsTableOf
of_integers P d zs (ms, is, members) (ns, same, holds) =
    let both : table ns ≡ table ms = sym same ∙ is in let tables : ns ≡ ms = cc in
    subst P (ap members_list tables ∙ members) holds

pub integers : (P : List (List ℕ × Data) → Type 0) (d : Data) (zs : List (List ℕ × ℤ)) → AreIntegers zs d → P (map integer_member zs) → IsTableOf (λ ms. P (members_list ms)) d
unfolding AreIntegers IsTableOf
integers P d zs (ms, is, members) holds = (ms, is, subst P (sym members) holds)

-- a table of integers is one whose members are all integers
pub integers_are : (d : Data) (zs : List (List ℕ × ℤ)) → AreIntegers zs d → IsTableOf (λ ms. All (λ m. IsInteger Anything m.1) (members_list ms)) d
unfolding Anything
integers_are d zs are = integers (All (λ m. IsInteger Anything m.1)) d zs are (all_map (λ m. IsInteger Anything m.1) integer_member zs (λ k e lt. whole Anything _ _ refl tt))

-- the tables of an array of tables are these
tables_among-map : (ts : List Members) → tables_among (map table ts) ≡ ts
tables_among-map [] = refl
tables_among-map (t ∷ ts) = ap (λ us. t ∷ us) (tables_among-map ts)

pub tables_of-there : (o : Option Data) (d : Data) (ts : List Members) → o ≡ Some d → AreTables ts d → tables_of o ≡ ts
unfolding tables_of AreTables IsArrayOf
tables_of-there o d ts is (ds, same, items) = rw (is, same) (ap tables_among items ∙ tables_among-map ts)

pub tables_of-absent : (o : Option Data) → o ≡ None → tables_of o ≡ []
unfolding tables_of
tables_of-absent o is = rw is refl

pub tables_are : (d : Data) (ts : List Members) → AreTables ts d → IsArrayOf (All (IsTableOf Anything)) d
unfolding AreTables IsArrayOf IsTableOf Anything
tables_are d ts (ds, is, items) = (ds, is, subst (All (IsTableOf Anything)) (sym items) (all_map (IsTableOf Anything) table ts (λ k e lt. (_, refl, tt))))

-- ---- a value is one text, one integer, one table of integers

pub text-one : (o : Option Data) (t u : List ℕ) → o ≡ Some (string t) → o ≡ Some (string u) → t ≡ u
text-one o t u a b = let both = sym a ∙ b in cc

same_integers : (n m : List ℕ) (x y : ℤ) (zs ws : List (List ℕ × ℤ)) → n ≡ m → x ≡ y → zs ≡ ws → ◌≡◌ {A = List (List ℕ × ℤ)} ((n, x) ∷ zs) ((m, y) ∷ ws)
same_integers n m x y zs ws a b c = rw (a, b, c) refl

integers_apart : (zs ws : List (List ℕ × ℤ)) → map integer_member zs ≡ map integer_member ws → zs ≡ ws
integers_apart [] [] e = refl
integers_apart [] (w ∷ ws) e = absurd (cc)
integers_apart (z ∷ zs) [] e = absurd (cc)
integers_apart (z ∷ zs) (w ∷ ws) e =
    let heads : integer_member z ≡ integer_member w = ap (λ ms. get_or ms 0 (integer_member w)) e in
    let data_ : integer z.1 ≡ integer w.1 = ap (λ m. m.1) heads in
    let numbers : z.1 ≡ w.1 = cc in
    same_integers z.0 w.0 z.1 w.1 zs ws (ap (λ m. m.0) heads) numbers (integers_apart zs ws (ap (drop 1) e))

pub integers-one : (d : Data) (zs ws : List (List ℕ × ℤ)) → AreIntegers zs d → AreIntegers ws d → zs ≡ ws
unfolding AreIntegers IsTableOf
integers-one d zs ws (ms, is, members) (ns, same, others) =
    let both : table ms ≡ table ns = sym is ∙ same in let tables : ms ≡ ns = cc in
    integers_apart zs ws (sym members ∙ (ap members_list tables ∙ others))

pub integers_there-one : (o : Option Data) (zs ws : List (List ℕ × ℤ)) → IsThere o (AreIntegers zs) → IsThere o (AreIntegers ws) → zs ≡ ws
unfolding IsThere
integers_there-one None zs ws a b = absurd a
integers_there-one (Some d) zs ws a b = integers-one d zs ws a b

-- a text has one table
pub table-one : (text : List ℕ) (ms ns : Members) → IsTable text ms → IsTable text ns → ms ≡ ns
unfolding IsTable
table-one text ms ns a b = let both = sym a.1 ∙ b.1 in cc
