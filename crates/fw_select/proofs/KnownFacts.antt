-- Lemmas on what is known of rows.
use Rattle.std.proofs.Common.{◌≡◌, ◌∙◌, ◌≢◌, ◌<◌, ◌≤◌, ℕ, Bool, true, false, List, [], ◌∷◌, ◌++◌, length, get_or, replicate, set, Option, Some, None, IfSome, slice_get, sym, ap, refl, subst, arith, ◌⊎◌, inl, inr}
use Rattle.std.proofs.lemmas.List.{get_or-set_other, get_or-set_same, get_or_past, get_or-replicate, length-replicate, length-set}
use Rattle.std.proofs.lemmas.Bool.{cases_lt}
use Rattle.std.proofs.lemmas.Option.{get_or_from_slice_get, slice_get-get_or, slice_get_within}
use Rattle.fw_charge.specs.Charge.{Charge}
use Rattle.fw_amortise.specs.LineValue.{LineValue}
use Rattle.fw_select.specs.Rows.{AgreeOnAll, AreAlike, IsCount, IsFound, IsKnown, found_at, plain_line, sources_of}
use Rattle.fw_select.specs.Selectors.{group_on}
use Rattle.fw_select.specs.Table.{KeepsGroups, group_at}
use Rattle.fw_select.specs.declared.count.Count.{Count}
use Rattle.fw_select.specs.declared.known.Found.{Found}
use Rattle.fw_select.specs.declared.known.Found.TheVariants as found
use Rattle.fw_select.specs.declared.known.Known.{Known}
use Rattle.fw_select.specs.declared.selector.Selector.{Selector}
use Rattle.fw_select.specs.declared.table.Table.{Table}
use Rattle.fw_select.proofs.RowFacts.{alike}

-- what was found stays so as groups come
found_kept : (s : Selector) (old new : Table) (line : LineValue) (f : Found) → KeepsGroups old new → IsFound s old line f → IsFound s new line f
found_kept s old new line found.Unknown kept is = tt
found_kept s old new line found.Left kept is = is
found_kept s old new line (found.At place) kept is = (is.0, kept.each place (group_on s line) is.1)

pub known_kept : (s : Selector) (old new : Table) (rows : List Charge) (known : Known) → KeepsGroups old new → IsKnown s old rows known → IsKnown s new rows known
known_kept s old new rows known kept is = record {
  long = is.long;
  alike = is.alike;
  found = λ p a at. found_kept s old new (plain_line a) (found_at known p) kept (is.found p a at);
}

-- what was found of a row is so of those that are alike
found_alike : (s : Selector) (table : Table) (a b : Charge) (f : Found) → AreAlike s a b → IsFound s table (plain_line b) f → IsFound s table (plain_line a) f
found_alike s table a b found.Unknown same is = tt
found_alike s table a b found.Left same is = same.taken ∙ is
found_alike s table a b (found.At place) same is = (same.taken ∙ is.0, is.1 ∙ ap Some (sym same.group))

-- an entry of a list in which one was replaced
set_each : (P : Found → Type 0) (xs : List Found) (i j : ℕ) (f d : Found) → P d → (j ≡ i → P f) → P (get_or xs j d) → P (get_or (set xs i f) j d)
set_each P xs i j f d none same other = by (cases_lt j i) (cases_lt i j) (cases_lt i (length xs))
  where
    by : (j < i) ⊎ (i ≤ j) → (i < j) ⊎ (j ≤ i) → (i < length xs) ⊎ (length xs ≤ i) → P (get_or (set xs i f) j d)
    by (inl lower) h k = subst P (sym (get_or-set_other xs i j f d (λ e. omega arith))) other
    by (inr h) (inl higher) k = subst P (sym (get_or-set_other xs i j f d (λ e. omega arith))) other
    by (inr h) (inr k) (inl inside) =
        let one : j ≡ i = omega arith in
        subst P (sym (ap (λ n. get_or (set xs i f) n d) one ∙ get_or-set_same xs i f d inside)) (same one)
    by (inr h) (inr k) (inr past) =
        let long = length-set xs i f in
        subst P (sym (get_or_past (set xs i f) j d (omega arith))) none

-- what was found of the row at a place is noted
pub known_noted : (s : Selector) (old new : Table) (rows : List Charge) (known noted : Known) (place : ℕ) (row : Charge) (f : Found) → KeepsGroups old new → IsKnown s old rows known
    → slice_get rows place ≡ Some row → IsFound s new (plain_line row) f → noted.numbers.items ≡ known.numbers.items → noted.found.items ≡ set known.found.items (get_or known.numbers.items place 0) f
    → IsKnown s new rows noted
known_noted s old new rows known noted place row f kept is here so numbers changed = record {
  long = ap length numbers ∙ is.long;
  alike = λ p q a b at bt e. is.alike p q a b at bt (sym (number p) ∙ e ∙ number q);
  found = λ p a at. subst (IsFound s new (plain_line a)) (sym (seen p)) (each p a at);
}
  where
    number : (p : ℕ) → get_or noted.numbers.items p 0 ≡ get_or known.numbers.items p 0
    number p = ap (λ l. get_or l p 0) numbers

    seen : (p : ℕ) → found_at noted p ≡ get_or (set known.found.items (get_or known.numbers.items place 0) f) (get_or known.numbers.items p 0) found.Unknown
    seen p = λ j. get_or (changed j) (number p j) found.Unknown

    each : (p : ℕ) (a : Charge) → slice_get rows p ≡ Some a → IsFound s new (plain_line a) (get_or (set known.found.items (get_or known.numbers.items place 0) f) (get_or known.numbers.items p 0) found.Unknown)
    each p a at =
        set_each (IsFound s new (plain_line a)) known.found.items (get_or known.numbers.items place 0) (get_or known.numbers.items p 0) f found.Unknown tt
        (λ e. found_alike s new a row f (is.alike p place a row at here e) so) (found_kept s old new (plain_line a) (found_at known p) kept (is.found p a at))

-- each entry of a list of one value
all_one : {X : Type 0} (x : X) (n i : ℕ) → get_or (replicate n x) i x ≡ x
all_one x n i = by (cases_lt i n)
  where
    by : (i < n) ⊎ (n ≤ i) → get_or (replicate n x) i x ≡ x
    by (inl below) = get_or-replicate n i x x below
    by (inr past) = get_or_past (replicate n x) i x (let long = length-replicate n x in omega arith)

-- nothing was found yet
pub known_at_first : (s : Selector) (table : Table) (rows : List Charge) (known : Known) (count : ℕ) → AgreeOnAll (sources_of s) rows known.numbers.items → known.found.items ≡ replicate count found.Unknown → IsKnown s table rows known
known_at_first s table rows known count agree none = record {
  long = agree.long;
  alike = λ p q a b at bt e. alike s a b (agree.same p q a b at bt e);
  found = λ p a at. subst (IsFound s table (plain_line a)) (sym (ap (λ l. get_or l (get_or known.numbers.items p 0) found.Unknown) none ∙ all_one found.Unknown count (get_or known.numbers.items p 0))) tt;
}

-- ---- what is known of segments

pub count_at_first : (s : Selector) (segments : List (List Charge)) (count : Count) (n : ℕ) → length count.room.group.items ≡ length s.keys.now → count.known.items ≡ replicate n None → n ≡ length segments → IsCount s segments count
count_at_first s segments count n room none long = record {
  room = room;
  long = ap length none ∙ length-replicate n None ∙ long;
  each = λ k known at.
      let found : Some known ≡ None = sym (get_or_from_slice_get count.known.items k (Some known) None at) ∙ ap (λ l. get_or l k None) none ∙ all_one None n k in
      absurd (cc);
}

-- one segment's part of what is known
pub count_put : (s : Selector) (segments : List (List Charge)) (old new : Count) (i : ℕ) (one : Option Known) → IsCount s segments old → KeepsGroups old.table new.table → length new.room.group.items ≡ length s.keys.now
    → i < length segments → new.known.items ≡ set old.known.items i one → IfSome one (IsKnown s new.table (get_or segments i [])) → IsCount s segments new
count_put s segments old new i one is kept room below put so = record {
  room = room;
  long = ap length put ∙ length-set old.known.items i one ∙ is.long;
  each = λ k known at. by k known (cases_lt k i) (cases_lt i k) (get_or_from_slice_get new.known.items k (Some known) None at) (slice_get_within new.known.items k (Some known) at);
}
  where
    other : (k : ℕ) (known : Known) → (k ≡ i → ⊥) → get_or new.known.items k None ≡ Some known → k < length new.known.items → IsKnown s new.table (get_or segments k []) known
    other k known apart at inside =
        let was : get_or old.known.items k None ≡ Some known = sym (get_or-set_other old.known.items i k one None apart) ∙ ap (λ l. get_or l k None) (sym put) ∙ at in
        let long = ap length put ∙ length-set old.known.items i one in
        let there : slice_get old.known.items k ≡ Some (Some known) = slice_get-get_or old.known.items k None (omega arith) ∙ ap Some was in
        known_kept s old.table new.table (get_or segments k []) known kept (is.each k known there)

    own : (known : Known) (o : Option Known) → o ≡ Some known → IfSome o (IsKnown s new.table (get_or segments i [])) → IsKnown s new.table (get_or segments i []) known
    own known None e h = absurd (cc)
    own known (Some x) e h = let same : x ≡ known = cc in subst (IsKnown s new.table (get_or segments i [])) same h

    by : (k : ℕ) (known : Known) → (k < i) ⊎ (i ≤ k) → (i < k) ⊎ (k ≤ i) → get_or new.known.items k None ≡ Some known → k < length new.known.items → IsKnown s new.table (get_or segments k []) known
    by k known (inl lower) h at inside = other k known (λ e. omega arith) at inside
    by k known (inr g) (inl higher) at inside = other k known (λ e. omega arith) at inside
    by k known (inr g) (inr h) at inside =
        let same : k ≡ i = omega arith in
        let long = is.long in
        let here : one ≡ Some known = sym (get_or-set_same old.known.items i one None (omega arith)) ∙ ap (λ l. get_or l i None) (sym put) ∙ ap (λ n. get_or new.known.items n None) (sym same) ∙ at in
        subst (λ n. IsKnown s new.table (get_or segments n []) known) (sym same) (own known one here so)

pub known_there : (s : Selector) (segments : List (List Charge)) (count : Count) (i : ℕ) (one : Option Known) → IsCount s segments count → slice_get count.known.items i ≡ Some one → IfSome one (IsKnown s count.table (get_or segments i []))
known_there s segments count i None is at = tt
known_there s segments count i (Some known) is at = is.each i known at

pub count_kept : (s : Selector) (segments : List (List Charge)) (old new : Count) → KeepsGroups old.table new.table → new.known ≡ old.known → length new.room.group.items ≡ length s.keys.now → IsCount s segments old → IsCount s segments new
count_kept s segments old new kept same room is = record {
  room = room;
  long = ap (λ k. length k.items) same ∙ is.long;
  each = λ k known at. known_kept s old.table new.table (get_or segments k []) known kept (is.each k known (ap (λ l. slice_get l.items k) (sym same) ∙ at));
}
