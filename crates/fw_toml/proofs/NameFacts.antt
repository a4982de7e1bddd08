-- Names of a table that are known so far.
use Rattle.std.proofs.Common.{◌≡◌, ◌≢◌, ◌<◌, ℕ, zero, suc, List, [], ◌∷◌, ◌++◌, length, map, get_or, Bor, String, Global, string_bytes, Bool, true, false, append_assoc, append-nil, subst, sym, ◌∙◌, ap, arith}
use Rattle.std.specs.Str.{bytes_eq}
use Rattle.std.specs.List.{All, Contains}
use Rattle.std.specs.BTreeMap.{keys}
use Rattle.std.proofs.lemmas.List.{get_or_default}
use Rattle.std.proofs.lemmas.List.Elements.{All-append}
use Rattle.std.proofs.lemmas.Slice.Eq.{bytes_eq-Decides}
use Rattle.toml.specs.View.{view, members_view}
use Rattle.toml.specs.declared.value.Value.{Value}
use Rattle.fw_toml.specs.Tree.{HasOnly, members_list}

abbrev pub shown : List (Bor (List ℕ)) → List (List ℕ)
shown names = map (λ n. n.now) names

pub among : (names : List (Bor (List ℕ))) (name : List ℕ) (k : ℕ) (d : Bor (List ℕ)) → k < length names → (get_or names k d).now ≡ name → Contains (shown names) name
among [] name k d lt same = absurd (omega arith)
among (n ∷ names) name zero d lt same = (0, omega arith, same)
among (n ∷ names) name (suc k) d lt same = let (i, within, is) = among names name k d (omega arith) same in (suc i, omega arith, is)

pub not_among : (names : List (Bor (List ℕ))) (name : List ℕ) → ((k : ℕ) → k < length names → (d : Bor (List ℕ)) → (get_or names k d).now ≢ name) → ¬ Contains (shown names) name
not_among [] name none (i, within, is) = absurd (omega arith)
not_among (n ∷ names) name none (zero, within, is) = none 0 (omega arith) n is
not_among (n ∷ names) name none (suc i, within, is) = not_among names name (λ k lt d. none (suc k) (omega arith) d) (i, omega arith, is)

-- the first of the keys are among the names, and the others are left
pub record Known (names : List (Bor (List ℕ))) (keys left : List (String Global)) : Type 0 where
  pub seen : List (String Global)
  pub whole : keys ≡ seen ++ left
  pub known : All (λ k. Contains (shown names) (string_bytes k)) seen

-- the name at a place is the one that is sought, or is not
pub is_here : (names : List (Bor (List ℕ))) (name : List ℕ) (i : ℕ) (e : Bor (List ℕ)) (r : Bool) → r ≡ bytes_eq (get_or names i e).now name → r ≡ true → (get_or names i e).now ≡ name
is_here names name i e r is holds = (bytes_eq-Decides (get_or names i e).now name).0 (sym is ∙ holds)

pub not_here : (names : List (Bor (List ℕ))) (name : List ℕ) (i : ℕ) (e : Bor (List ℕ)) (r : Bool) → i < length names → r ≡ bytes_eq (get_or names i e).now name → r ≡ false
    → (d : Bor (List ℕ)) → (get_or names i d).now ≢ name
not_here names name i e r lt is no_ d same =
    let here : (get_or names i e).now ≡ name = ap (λ n. n.now) (get_or_default names i e d lt) ∙ same in
    let found = (bytes_eq-Decides (get_or names i e).now name).1 here in cc

-- a table's names are the texts of its keys
names_from : (names : List (Bor (List ℕ))) (es : List (String Global × Value)) → All (λ k. Contains (shown names) (string_bytes k)) (map (λ e. e.0) es) → All (λ m. Contains (shown names) m.0) (members_list (members_view es))
names_from names [] all k d lt = absurd (omega arith)
names_from names (e ∷ es) all zero d lt = all 0 e.0 (omega arith)
names_from names (e ∷ es) all (suc k) d lt = names_from names es (λ j x within. all (suc j) x (omega arith)) k d (omega arith)

keys_from : (names : List (Bor (List ℕ))) (es : List (String Global × Value)) → All (λ m. Contains (shown names) m.0) (members_list (members_view es)) → All (λ k. Contains (shown names) (string_bytes k)) (map (λ e. e.0) es)
keys_from names [] all k d lt = absurd (omega arith)
keys_from names (e ∷ es) all zero d lt = all 0 (string_bytes e.0, view e.1) (omega arith)
keys_from names (e ∷ es) all (suc k) d lt = keys_from names es (λ j x within. all (suc j) x (omega arith)) k d (omega arith)

pub known-start : (names : List (Bor (List ℕ))) (keys left : List (String Global)) → left ≡ keys → Known names keys left
known-start names keys left same = record { seen = []; whole = sym same; known = λ k d lt. absurd (omega arith) }

one : (P : String Global → Type 0) (k : String Global) → P k → All P (k ∷ [])
one P k here zero d lt = here
one P k here (suc j) d lt = absurd (omega arith)

middle : (P : String Global → Type 0) (seen : List (String Global)) (k : String Global) (more : List (String Global)) → All P (seen ++ (k ∷ more)) → P k
middle P [] k more all = all 0 k (omega arith)
middle P (s ∷ seen) k more all = middle P seen k more (λ j d lt. all (suc j) d (omega arith))

pub known-more : (names : List (Bor (List ℕ))) (keys left more : List (String Global)) (k : String Global) → Known names keys left → left ≡ k ∷ more → Contains (shown names) (string_bytes k) → Known names keys more
known-more names keys left more k so_far next here = record {
  seen = so_far.seen ++ k ∷ [];
  whole = so_far.whole ∙ (ap (λ t. so_far.seen ++ t) next ∙ sym (append_assoc so_far.seen (k ∷ []) more));
  known = All-append (λ x. Contains (shown names) (string_bytes x)) so_far.seen (k ∷ []) so_far.known (one (λ x. Contains (shown names) (string_bytes x)) k here);
}

-- a name that is none of these
pub known-fault : (names : List (Bor (List ℕ))) (es : List (String Global × Value)) (left more : List (String Global)) (k : String Global) → Known names (map (λ e. e.0) es) left → left ≡ k ∷ more
    → ¬ Contains (shown names) (string_bytes k) → ¬ HasOnly (shown names) (members_view es)
unfolding HasOnly
known-fault names es left more k so_far next other only =
    let whole = so_far.whole ∙ ap (λ t. so_far.seen ++ t) next in
    other (middle (λ x. Contains (shown names) (string_bytes x)) so_far.seen k more (subst (All (λ x. Contains (shown names) (string_bytes x))) whole (keys_from names es only)))

-- all are
pub known-all : (names : List (Bor (List ℕ))) (es : List (String Global × Value)) (left : List (String Global)) → Known names (map (λ e. e.0) es) left → left ≡ [] → HasOnly (shown names) (members_view es)
unfolding HasOnly
known-all names es left so_far none =
    let whole = so_far.whole ∙ (ap (λ t. so_far.seen ++ t) none ∙ append-nil so_far.seen) in
    names_from names es (subst (All (λ x. Contains (shown names) (string_bytes x))) (sym whole) so_far.known)
