-- Texts that rise one after the other are sorted, each once, and the other way round.
use Rattle.std.proofs.Common.{◌≡◌, ℕ, true, List, [], ◌∷◌, refl, ap}
use Rattle.std.proofs.Common.{Ordering, Less, Equal, Greater}
use Rattle.std.specs.Ordering.{nat_cmp, is_lt}
use Rattle.std.specs.Cmp.Lexicographic.{slice_cmp}
use Rattle.std.specs.List.{AllByRecursion}
use Rattle.std.specs.List.Sorted.{IsStrictlySortedBy}
use Rattle.std.proofs.lemmas.Cmp.{nat_list_cmp_total}
use Rattle.std.proofs.lemmas.Bool.{and_from, and_parts}
use Rattle.fw_bytes.specs.Order.{is_before, rise_from, rise}

less_from : (o : Ordering) → is_lt o ≡ true → o ≡ Less
less_from Less e = refl
less_from Equal e = absurd cc
less_from Greater e = absurd cc

above : (a b : List ℕ) (texts : List (List ℕ)) → slice_cmp nat_cmp a b ≡ Less → AllByRecursion (λ y. slice_cmp nat_cmp b y ≡ Less) texts → AllByRecursion (λ y. slice_cmp nat_cmp a y ≡ Less) texts
above a b [] lt h = tt
above a b (text ∷ texts) lt h = (nat_list_cmp_total.trans a b text lt h.0, above a b texts lt h.1)

sorted_above : (last : List ℕ) (texts : List (List ℕ)) → rise_from last texts ≡ true → AllByRecursion (λ y. slice_cmp nat_cmp last y ≡ Less) texts × IsStrictlySortedBy (slice_cmp nat_cmp) texts
unfolding IsStrictlySortedBy
sorted_above last [] e = (tt, tt)
sorted_above last (text ∷ texts) e =
    let p = and_parts (is_before last text) (rise_from text texts) e in
    let lt = less_from (slice_cmp nat_cmp last text) p.0 in
    let r = sorted_above text texts p.1 in
    ((lt, above last text texts lt r.0), r)

pub sorted_from_rise : (texts : List (List ℕ)) → rise texts ≡ true → IsStrictlySortedBy (slice_cmp nat_cmp) texts
unfolding IsStrictlySortedBy
sorted_from_rise [] e = tt
sorted_from_rise (text ∷ texts) e = sorted_above text texts e

rises_from : (last : List ℕ) (texts : List (List ℕ)) → AllByRecursion (λ y. slice_cmp nat_cmp last y ≡ Less) texts → IsStrictlySortedBy (slice_cmp nat_cmp) texts → rise_from last texts ≡ true
unfolding IsStrictlySortedBy
rises_from last [] h s = refl
rises_from last (text ∷ texts) h s = and_from (is_before last text) (rise_from text texts) (ap is_lt h.0) (rises_from text texts s.0 s.1)

pub rise_from_sorted : (texts : List (List ℕ)) → IsStrictlySortedBy (slice_cmp nat_cmp) texts → rise texts ≡ true
unfolding IsStrictlySortedBy
rise_from_sorted [] s = refl
rise_from_sorted (text ∷ texts) s = rises_from text texts s.0 s.1
