-- Lemmas on the totals that are made of the sums that were kept, once these are in order.
use Rattle.std.proofs.Common.{◌≡◌, ◌∙◌, ℕ, ◌+◌, Bool, true, false, ◌||◌, cond, List, [], ◌∷◌, map, get_or, Some, None, is_some, Ordering, String, string_bytes, sym, ap, refl, arith}
use Rattle.std.proofs.lemmas.Cmp.{nat_list_cmp_total}
use Rattle.std.proofs.lemmas.List.Sorted.{IsPermutation-map, list_any-IsPermutation}
use Rattle.std.proofs.lemmas.Map.Keys.{apart_from_distinct, sorted_from_all_adjacent}
use Rattle.std.proofs.lemmas.Map.Lookups.{exact_bytes}
use Rattle.std.proofs.lemmas.Map.Made.{is_member-Decides}
use Rattle.std.proofs.lemmas.Slice.Eq.{bytes_eq-Decides}
use Rattle.std.specs.Cmp.Lexicographic.{slice_cmp}
use Rattle.std.specs.declared.alloc.Global.{Global}
use Rattle.std.specs.declared.cmp.Ordering.TheVariants.{Less, Equal, Greater}
use Rattle.std.specs.List.{AllByRecursion, IsDistinct, list_any}
use Rattle.std.specs.List.Sorted.{IsPermutation, IsSorted, IsStrictlySortedBy}
use Rattle.std.specs.Map.{keys_of, lookup}
use Rattle.std.specs.Ordering.{is_lt, nat_cmp, ordering_reverse}
use Rattle.std.specs.Str.{bytes_eq}
use Rattle.std.specs.String.{string_cmp, string_cmp_total, string_eq, string_eq_equiv}
use Rattle.fw_sums.specs.Costs.{Cost, groups_of, sum_in}
use Rattle.fw_sums.specs.Sums.{kept_total, sums_of}
use Rattle.fw_sums.specs.Totals.{AreTotals, total_of}
use Rattle.fw_sums.specs.declared.groups.Sums.{Sums}

-- sums under the texts of their groups
abbrev pub Kept : Type 0
Kept = List (String Global × Sums)

-- the groups that are kept
abbrev pub texts_of : Kept → List (List ℕ)
texts_of es = map string_bytes (keys_of es)

-- ---- the order of the groups

-- of two texts that differ, the one that isn't above is below
below : (x y : List ℕ) → is_lt (slice_cmp nat_cmp y x) ≡ false → bytes_eq x y ≡ false → slice_cmp nat_cmp x y ≡ Less
below x y up apart = by (slice_cmp nat_cmp x y) refl
  where
    by : (r : Ordering) → slice_cmp nat_cmp x y ≡ r → slice_cmp nat_cmp x y ≡ Less
    by Less e = e
    by Equal e = let same : bytes_eq x y ≡ true = (bytes_eq-Decides x y).1 (exact_bytes x y e) in absurd (cc)
    by Greater e = let back : is_lt (slice_cmp nat_cmp y x) ≡ true = ap is_lt (nat_list_cmp_total.antisymm y x ∙ ap ordering_reverse e) in absurd (cc)

-- keys that are in order and differ rise
rising : (ks : List (String Global)) → IsSorted string_cmp ks → IsDistinct string_eq ks → IsStrictlySortedBy string_cmp ks
unfolding IsStrictlySortedBy
rising [] sorted apart = tt
rising (k ∷ ks) sorted apart =
    sorted_from_all_adjacent string_cmp_total (k ∷ ks) k (λ i l. below ((get_or (k ∷ ks) i k).bytes.items) ((get_or (k ∷ ks) (i + 1) k).bytes.items) (sorted i k (omega arith) l) (apart_from_distinct string_eq (k ∷ ks) i (i + 1) k apart (omega arith) l))

each_text : (P : List ℕ → Type 0) (ks : List (String Global)) → AllByRecursion (λ k. P (string_bytes k)) ks → AllByRecursion P (map string_bytes ks)
each_text P [] h = tt
each_text P (k ∷ ks) h = (h.0, each_text P ks h.1)

-- and so do their texts
rising_texts : (ks : List (String Global)) → IsStrictlySortedBy string_cmp ks → IsStrictlySortedBy (slice_cmp nat_cmp) (map string_bytes ks)
unfolding IsStrictlySortedBy
rising_texts [] h = tt
rising_texts (k ∷ ks) h = (each_text (λ y. slice_cmp nat_cmp (string_bytes k) y ≡ Less) ks h.0, rising_texts ks h.1)

-- ---- which groups there are

found : (g : List ℕ) (es : Kept) → is_some (lookup (λ k. bytes_eq g (string_bytes k)) es) ≡ list_any (bytes_eq g) (texts_of es)
found g [] = refl
found g (e ∷ es) = let rest = found g es in
    elim (bytes_eq g (string_bytes e.0)) as (λ b. is_some (cond b (Some e.1) (lookup (λ k. bytes_eq g (string_bytes k)) es)) ≡ (b || list_any (bytes_eq g) (texts_of es))) [ true ↦ refl | false ↦ rest ]

is_some-sums_of : (costs : List Cost) (g : List ℕ) → is_some (sums_of costs g) ≡ list_any (bytes_eq g) (groups_of costs)
unfolding sums_of
is_some-sums_of costs g = elim (list_any (bytes_eq g) (groups_of costs)) as (λ b. is_some (cond b (Some sums) None) ≡ b) [ true ↦ refl | false ↦ refl ]
  where
    sums : Sums
    sums = record { billed = sum_in (λ c. c.billed) costs g; effective = sum_in (λ c. c.effective) costs g }

-- ---- the sums of each

-- what a look-up finds, with another key before the entries
found_behind : (k : String Global) (v : Sums) (all es : Kept) → AllByRecursion (λ y. string_eq k y ≡ false) (keys_of es)
    → AllByRecursion (λ e. lookup (string_eq e.0) all ≡ Some e.1) es → AllByRecursion (λ e. lookup (string_eq e.0) ((k, v) ∷ all) ≡ Some e.1) es
found_behind k v all [] apart h = tt
found_behind k v all (e ∷ es) apart h = (rw (string_eq_equiv.symm e.0 k ∙ apart.0) h.0, found_behind k v all es apart.1 h.1)

-- a look-up finds each entry
found_each : (es : Kept) → IsDistinct string_eq (keys_of es) → AllByRecursion (λ e. lookup (string_eq e.0) es ≡ Some e.1) es
unfolding IsDistinct
found_each [] apart = tt
found_each (e ∷ es) apart = (rw (string_eq_equiv.refl e.0) refl, found_behind e.0 e.1 es es apart.0 (found_each es apart.1))

each_weaker : {X : Type 0} (P Q : X → Type 0) → ((x : X) → P x → Q x) → (xs : List X) → AllByRecursion P xs → AllByRecursion Q xs
each_weaker P Q f [] h = tt
each_weaker P Q f (x ∷ xs) h = (f x h.0, each_weaker P Q f xs h.1)

-- sums that are kept are the sums over the lines
kept_is : (costs : List Cost) (g : List ℕ) (s : Sums) → sums_of costs g ≡ Some s → s ≡ record { billed = sum_in (λ c. c.billed) costs g; effective = sum_in (λ c. c.effective) costs g }
unfolding sums_of
kept_is costs g s is = by (list_any (bytes_eq g) (groups_of costs)) is
  where
    by : (b : Bool) → cond b (Some (record { billed = sum_in (λ c. c.billed) costs g; effective = sum_in (λ c. c.effective) costs g })) None ≡ Some s → s ≡ record { billed = sum_in (λ c. c.billed) costs g; effective = sum_in (λ c. c.effective) costs g }
    by true h = cc
    by false h = absurd (cc)

kept_totals : (costs : List Cost) (es : Kept) → AllByRecursion (λ e. sums_of costs (string_bytes e.0) ≡ Some e.1) es → map kept_total es ≡ map (total_of costs) (texts_of es)
kept_totals costs [] h = refl
kept_totals costs (e ∷ es) h =
    let sums = kept_is costs (string_bytes e.0) e.1 h.0 in
    let rest = kept_totals costs es h.1 in
    λ j. kept_total (e.0, sums j) ∷ rest j

-- the totals, once they are in order
pub totals_from_sorted : (costs : List Cost) (old new : Kept) → ((g : List ℕ) → lookup (λ k. bytes_eq g (string_bytes k)) old ≡ sums_of costs g)
    → IsPermutation old new → ((q : String Global) → lookup (string_eq q) new ≡ lookup (string_eq q) old) → IsSorted string_cmp (keys_of new) → IsDistinct string_eq (keys_of new)
    → AreTotals costs (map kept_total new)
totals_from_sorted costs old new sums moved same sorted apart = record {
  groups = texts_of new;
  are_groups = record {
    rising = rising_texts (keys_of new) (rising (keys_of new) sorted apart);
    each = λ g.
        let test : list_any (bytes_eq g) (texts_of new) ≡ list_any (bytes_eq g) (groups_of costs) =
        sym (list_any-IsPermutation (bytes_eq g) (texts_of old) (texts_of new) (IsPermutation-map string_bytes _ _ (IsPermutation-map (λ (e : String Global × Sums). e.0) old new moved)))
        ∙ sym (found g old) ∙ ap is_some (sums g) ∙ is_some-sums_of costs g in
        let there = is_member-Decides bytes_eq-Decides (texts_of new) g in
        let counted = is_member-Decides bytes_eq-Decides (groups_of costs) g in
        (λ h. counted.0 (sym test ∙ there.1 h), λ h. there.0 (test ∙ counted.1 h));
  };
  totals_are = kept_totals costs new
      (each_weaker (λ (e : String Global × Sums). lookup (string_eq e.0) new ≡ Some e.1) (λ e. sums_of costs (string_bytes e.0) ≡ Some e.1) (λ e h. sym (sums (string_bytes e.0)) ∙ sym (same e.0) ∙ h) new (found_each new apart));
}
