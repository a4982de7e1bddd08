-- What the tests of a policy's groups say.
use Rattle.std.proofs.Common.{◌≡◌, ℕ, zero, suc, Bool, true, false, List, [], ◌∷◌, ◌++◌, map, refl, sym, ◌∙◌, subst, arith, inl, inr, ◌⊎◌}
use Rattle.std.specs.List.{All, Any, Contains}
use Rattle.std.specs.Str.{bytes_eq}
use Rattle.std.specs.Bool.{Decides}
use Rattle.std.proofs.lemmas.Bool.{false_from_ne_true}
use Rattle.std.proofs.lemmas.Bool.Decides.{Decides-or}
use Rattle.std.proofs.lemmas.List.Concat.{flat_map-cons}
use Rattle.std.proofs.lemmas.Slice.Eq.{bytes_eq-Decides}
use Rattle.fw_terms.specs.Texts.{HasTwice}
use Rattle.fw_terms.specs.Policy.{TargetValue, GiveValue, RuleValue, froms, targets_of, groups_given}
use Rattle.fw_terms.specs.Policy.GiveValue.{fixed, proportional}
use Rattle.fw_terms.specs.Groups.{is_from, has_double_from, is_any_from, gives_to_from, has_target_from}

-- ---- what a list has, by its first item and the others

has_cases : (x : List ℕ) (xs : List (List ℕ)) (g : List ℕ) → Contains (x ∷ xs) g → (x ≡ g) ⊎ Contains xs g
has_cases x xs g (zero, lt, e) = inl e
has_cases x xs g (suc k, lt, e) = inr (k, omega arith, e)

has_from : (x : List ℕ) (xs : List (List ℕ)) (g : List ℕ) → (x ≡ g) ⊎ Contains xs g → Contains (x ∷ xs) g
has_from x xs g (inl e) = (0, omega arith, e)
has_from x xs g (inr h) = (suc h.0, omega arith, h.2)

told : {P Q : Type 0} (b : Bool) → (P → Q) → (Q → P) → Decides b P → Decides b Q
told b to back d = (λ e. to (d.0 e), λ q. d.1 (back q))

is_from-Decides : (rules : List RuleValue) (g : List ℕ) → Decides (is_from rules g) (Contains (froms rules) g)
is_from-Decides [] g = (λ e. absurd cc, λ h. absurd (omega arith))
is_from-Decides (r ∷ rules) g =
    told (is_from (r ∷ rules) g) (has_from r.from (froms rules) g) (has_cases r.from (froms rules) g)
    (Decides-or (bytes_eq r.from g) (is_from rules g) (bytes_eq-Decides r.from g) (is_from-Decides rules g))

pub twice-Decides : (rules : List RuleValue) → Decides (has_double_from rules) (HasTwice (froms rules))
unfolding HasTwice
twice-Decides [] = (λ e. absurd cc, λ h. absurd h)
twice-Decides (r ∷ rules) = Decides-or (is_from rules r.from) (has_double_from rules) (is_from-Decides rules r.from) (twice-Decides rules)

-- ---- a group that is given to gives away

any_later : {X : Type 0} (P : X → Type 0) (x : X) (xs : List X) → Any P xs → Any P (x ∷ xs)
any_later P x xs (k, y, within, is, holds) = (suc k, y, omega arith, is, holds)

any_cases : {X : Type 0} (P : X → Type 0) (x : X) (xs : List X) → Any P (x ∷ xs) → P x ⊎ Any P xs
any_cases P x xs (zero, y, within, is, holds) = inl (subst P (sym is) holds)
any_cases P x xs (suc k, y, within, is, holds) = inr (k, y, omega arith, is, holds)

any_from : {X : Type 0} (P : X → Type 0) (x : X) (xs : List X) → P x ⊎ Any P xs → Any P (x ∷ xs)
any_from P x xs (inl here) = (0, x, omega arith, refl, here)
any_from P x xs (inr later) = any_later P x xs later

either_part : {X : Type 0} (P : X → Type 0) (xs ys : List X) → Any P (xs ++ ys) → Any P xs ⊎ Any P ys
either_part P [] ys any = inr any
either_part P (x ∷ xs) ys any = elim (any_cases P x (xs ++ ys) any) [
  | inl here ↦ inl (any_from P x xs (inl here))
  | inr later ↦ elim (either_part P xs ys later) [ inl a ↦ inl (any_later P x xs a) | inr b ↦ inr b ]
]

from_either : {X : Type 0} (P : X → Type 0) (xs ys : List X) → Any P xs ⊎ Any P ys → Any P (xs ++ ys)
from_either P [] ys (inl a) = absurd (omega (arith, a.2))
from_either P [] ys (inr b) = b
from_either P (x ∷ xs) ys (inl a) = elim (any_cases P x xs a) [ inl here ↦ any_from P x (xs ++ ys) (inl here) | inr later ↦ any_later P x (xs ++ ys) (from_either P xs ys (inl later)) ]
from_either P (x ∷ xs) ys (inr b) = any_later P x (xs ++ ys) (from_either P xs ys (inr b))

-- the group gives away by one of the rules
abbrev GivesAway : List RuleValue → List ℕ → Type 0
GivesAway all g = Contains (froms all) g

any-Decides : (all : List RuleValue) (ts : List TargetValue) → Decides (is_any_from all ts) (Any (GivesAway all) (map (λ t. t.group) ts))
any-Decides all [] = (λ e. absurd cc, λ h. absurd (omega (arith, h.2)))
any-Decides all (t ∷ ts) =
    told (is_any_from all (t ∷ ts)) (any_from (GivesAway all) t.group (map (λ t. t.group) ts)) (any_cases (GivesAway all) t.group (map (λ t. t.group) ts))
    (Decides-or (is_from all t.group) (is_any_from all ts) (is_from-Decides all t.group) (any-Decides all ts))

give-Decides : (all : List RuleValue) (give : GiveValue) → Decides (gives_to_from all give) (Any (GivesAway all) (groups_given give))
give-Decides all (fixed ts) = any-Decides all ts
give-Decides all proportional = (λ e. absurd cc, λ h. absurd (omega (arith, h.2)))

pub target-Decides : (all rules : List RuleValue) → Decides (has_target_from all rules) (Any (λ g. Contains (froms all) g) (targets_of rules))
target-Decides all [] = (λ e. absurd cc, λ h. absurd (omega (arith, h.2)))
target-Decides all (r ∷ rules) =
    rw flat_map-cons
    (told (has_target_from all (r ∷ rules)) (from_either (GivesAway all) (groups_given r.give) (targets_of rules)) (either_part (GivesAway all) (groups_given r.give) (targets_of rules))
    (Decides-or (gives_to_from all r.give) (has_target_from all rules) (give-Decides all r.give) (target-Decides all rules)))

-- ---- what a test says that gives what the definition gives

pub says : {P : Type 0} (b c : Bool) → b ≡ c → Decides c P → (b ≡ true → P) × (P → b ≡ true)
says b c e d = (λ t. d.0 (sym e ∙ t), λ p. e ∙ d.1 p)

-- ---- what each policy keeps

pub once : (rules : List RuleValue) → has_double_from rules ≡ false → ¬ HasTwice (froms rules)
once rules e h = let t = (twice-Decides rules).1 h in absurd cc

pub not_twice : (rules : List RuleValue) → ¬ HasTwice (froms rules) → has_double_from rules ≡ false
not_twice rules h = false_from_ne_true (has_double_from rules) (λ e. h ((twice-Decides rules).0 e))

-- no element is one that P holds of
pub all_not : {X : Type 0} (P : X → Type 0) (xs : List X) → ¬ Any P xs → All (λ x. ¬ P x) xs
all_not P [] none k d lt = absurd (omega arith)
all_not P (x ∷ xs) none zero d lt = λ holds. none (0, x, omega arith, refl, holds)
all_not P (x ∷ xs) none (suc k) d lt = all_not P xs (λ any. none (any_later P x xs any)) k d (omega arith)

none_of : {X : Type 0} (P : X → Type 0) (xs : List X) → All (λ x. ¬ P x) xs → ¬ Any P xs
none_of P xs all (k, y, within, is, holds) = all k y within (subst P (sym is) holds)

pub apart : (rules : List RuleValue) → has_target_from rules rules ≡ false → All (λ g. ¬ Contains (froms rules) g) (targets_of rules)
apart rules e = all_not (GivesAway rules) (targets_of rules) (λ any. let t = (target-Decides rules rules).1 any in absurd cc)

pub not_given : (rules : List RuleValue) → All (λ g. ¬ Contains (froms rules) g) (targets_of rules) → has_target_from rules rules ≡ false
not_given rules h = false_from_ne_true (has_target_from rules rules) (λ e. none_of (GivesAway rules) (targets_of rules) h ((target-Decides rules rules).0 e))
