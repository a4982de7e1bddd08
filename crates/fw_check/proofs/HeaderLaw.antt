-- A header without faults has each kept column just once.
use Rattle.std.proofs.Common.{◌≡◌, ◌∙◌, ◌+◌, ◌==◌, ◌||◌, ◌++◌, ◌∷◌, ℕ, Bool, true, false, List, [], Option, Some, None, length, nat_lt, refl, sym, ap, subst, arith, cond, not}
use Rattle.std.proofs.lemmas.Bool.Decides.{nat_tests}
use Rattle.std.proofs.lemmas.List.Elements.{All-cons, All-nil, All-push}
use Rattle.std.proofs.lemmas.List.Folds.{Any-from_list_any}
use Rattle.std.proofs.lemmas.List.Recursion.{is_count_by}
use Rattle.std.proofs.lemmas.Slice.Eq.{bytes_eq-Decides}
use Rattle.std.specs.List.{flat_map, list_any, position_or_len}
use Rattle.std.specs.Option.{is_none}
use Rattle.std.specs.Prelude.{All}
use Rattle.std.specs.Str.{bytes_eq}
use Rattle.fw_rows.specs.Columns.{Record, columns, is_name, name_of, place_in, required, times}
use Rattle.fw_rows.specs.Keeps.{KeepText}
use Rattle.fw_rows.specs.declared.column.Column.{Column}
use Rattle.fw_check.specs.Headers.{ColumnFault, double_in, fault_behind, fault_if, faults_behind, faults_of, header_faults, is_kept, is_name_among, kept_fault, kept_faults, missing_in, times_named}
use Rattle.fw_check.specs.declared.columns.HeaderFault.{HeaderFault}
use Rattle.fw_check.specs.declared.columns.HeaderFault.TheVariants as fault
use Rattle.fw_check.proofs.HeaderFacts.{times_is}

-- two lists that are none together are none each
front-none : (xs ys : List ColumnFault) → xs ++ ys ≡ [] → xs ≡ []
front-none [] ys e = refl
front-none (x ∷ xs) ys e = absurd (cc)

rest-none : (xs ys : List ColumnFault) → xs ++ ys ≡ [] → ys ≡ []
rest-none [] ys e = e
rest-none (x ∷ xs) ys e = absurd (cc)

no-fault : (name : List ℕ) (o : Option HeaderFault) → faults_of name o ≡ [] → o ≡ None
no-fault name None e = refl
no-fault name (Some f) e = absurd (cc)

not-so : (is : Bool) (f : HeaderFault) → fault_if is f ≡ None → is ≡ false
not-so true f e = absurd (cc)
not-so false f e = refl

is-so : (is : Bool) → not is ≡ false → is ≡ true
is-so true e = refl
is-so false e = absurd (cc)

-- where no column of some has a fault, the one with a name of theirs has none
among : (f : Column → List ColumnFault) (name : List ℕ) (cs : List Column) → flat_map f cs ≡ [] → list_any (λ c. bytes_eq (name_of c) name) cs ≡ true
    → (c : Column) × (f c ≡ []) × (name_of c ≡ name)
among f name [] none is = absurd (cc)
among f name (c ∷ cs) none is =
    by (bytes_eq (name_of c) name) refl is (among f name cs (rest-none (f c) (flat_map f cs) none))
  where
    by : (b : Bool) → bytes_eq (name_of c) name ≡ b → (b || list_any (λ c. bytes_eq (name_of c) name) cs) ≡ true
        → (list_any (λ c. bytes_eq (name_of c) name) cs ≡ true → (c : Column) × (f c ≡ []) × (name_of c ≡ name))
        → (c : Column) × (f c ≡ []) × (name_of c ≡ name)
    by true same is rest = (c, front-none (f c) (flat_map f cs) none, (bytes_eq-Decides (name_of c) name).0 same)
    by false same is rest = rest is

-- how many fields pass a test, by recursion
abbrev tally : (List ℕ → Bool) → Record → ℕ
tally p [] = 0
tally p (x ∷ xs) = cond (p x) (1 + tally p xs) (tally p xs)

-- what stands nowhere has no place
none-counted : (p : List ℕ → Bool) (xs : Record) → tally p xs ≡ 0 → position_or_len p xs ≡ length xs
none-counted p [] e = refl
none-counted p (x ∷ xs) e = by (p x) refl e (none-counted p xs)
  where
    by : (b : Bool) → p x ≡ b → cond b (1 + tally p xs) (tally p xs) ≡ 0 → (tally p xs ≡ 0 → position_or_len p xs ≡ length xs)
        → cond (not b) (1 + position_or_len p xs) 0 ≡ length (x ∷ xs)
    by true is e rest = absurd (omega arith)
    by false is e rest = let at : position_or_len p xs ≡ length xs = rest e in omega arith

no-place : (header : Record) (c : Column) → times header c ≡ 0 → is_none (place_in header c) ≡ true
unfolding times place_in
no-place header c e =
    let at : position_or_len (is_name c) header ≡ length header =
    none-counted (is_name c) header (is_count_by (tally (is_name c)) (is_name c) refl (λ _ _. refl) header ∙ e) in
    let past : nat_lt (length header) (length header) ≡ false = grind arith in
    rw (at, past) refl

-- a kept column that isn't counted already, and has no fault, stands once
once : (header : Record) (name : List ℕ) → header_faults header ≡ [] → kept_fault header name ≡ None → times_named header name ≡ 1
unfolding kept_fault is_name_among
once header name clean none = by (times_named header name == 0) (nat_lt 1 (times_named header name)) refl refl none
  where
    n : ℕ
    n = times_named header name

    by : (z m : Bool) → (n == 0) ≡ z → nat_lt 1 n ≡ m
        → cond z (fault_if (not (list_any (λ c. bytes_eq (name_of c) name) required)) fault.Missing) (cond m (fault_if (not (list_any (λ c. bytes_eq (name_of c) name) columns)) fault.Double) None) ≡ None
        → n ≡ 1
    by true m is more none =
        let named = is-so (list_any (λ c. bytes_eq (name_of c) name) required) (not-so _ fault.Missing none) in
        let c = among (missing_in header) name required (front-none (flat_map (missing_in header) required) (flat_map (double_in header) columns) clean) named in
        let there : is_none (place_in header c.0) ≡ false = not-so _ fault.Missing (no-fault (name_of c.0) _ c.1) in
        let zero : n ≡ 0 = grind (arith, nat_tests) in
        let nowhere : is_none (place_in header c.0) ≡ true = no-place header c.0 (sym (times_is header c.0) ∙ ap (times_named header) c.2 ∙ zero) in
        absurd (cc)
    by false true is more none =
        let named = is-so (list_any (λ c. bytes_eq (name_of c) name) columns) (not-so _ fault.Double none) in
        let c = among (double_in header) name columns (rest-none (flat_map (missing_in header) required) (flat_map (double_in header) columns) clean) named in
        let few : nat_lt 1 (times header c.0) ≡ false = not-so _ fault.Double (no-fault (name_of c.0) _ c.1) in
        let same : nat_lt 1 (times header c.0) ≡ nat_lt 1 n = ap (nat_lt 1) (sym (times_is header c.0) ∙ ap (times_named header) c.2) in
        absurd (cc)
    by false false is more none = grind (arith, nat_tests)

abbrev StandsOnce : Record → KeepText → Type 0
StandsOnce header keep = times_named header keep.column ≡ 1

-- one that is among those that stand once does so too
kept-once : (header : Record) (before : List KeepText) (name : List ℕ) → All (StandsOnce header) before → is_kept before name ≡ true → times_named header name ≡ 1
unfolding is_kept
kept-once header before name all is =
    let a = Any-from_list_any (λ (keep : KeepText). bytes_eq keep.column name) before is in
    let one : times_named header a.1.column ≡ 1 = subst (StandsOnce header) a.3 (all a.0 a.1 a.2) in
    subst (λ (m : List ℕ). times_named header m ≡ 1) ((bytes_eq-Decides a.1.column name).0 a.4) one

behind-once : (header : Record) (before : List KeepText) (name : List ℕ) → header_faults header ≡ [] → All (StandsOnce header) before → fault_behind header before name ≡ None
    → times_named header name ≡ 1
behind-once header before name clean all none = by (is_kept before name) refl none
  where
    by : (b : Bool) → is_kept before name ≡ b → cond b None (kept_fault header name) ≡ None → times_named header name ≡ 1
    by true is none = kept-once header before name all is
    by false is none = once header name clean none

all-behind : (header : Record) (before keeps : List KeepText) → header_faults header ≡ [] → All (StandsOnce header) before → faults_behind header before keeps ≡ []
    → All (StandsOnce header) keeps
all-behind header before [] clean all none = All-nil (StandsOnce header)
all-behind header before (keep ∷ keeps) clean all none =
    let first : List ColumnFault = faults_of keep.column (fault_behind header before keep.column) in
    let rest : List ColumnFault = faults_behind header (before ++ keep ∷ []) keeps in
    let here : StandsOnce header keep = behind-once header before keep.column clean all (no-fault keep.column _ (front-none first rest none)) in
    All-cons (StandsOnce header) keep keeps here
    (all-behind header (before ++ keep ∷ []) keeps clean (All-push (StandsOnce header) before keep all here) (rest-none first rest none))

pub all_once : (header : Record) (keeps : List KeepText) → header_faults header ≡ [] → kept_faults header keeps ≡ [] → All (StandsOnce header) keeps
all_once header keeps clean none = all-behind header [] keeps clean (All-nil (StandsOnce header)) none
