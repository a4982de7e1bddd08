-- Lemmas on the sums that a table keeps.
use Rattle.std.proofs.Common.{◌≡◌, ◌∙◌, ◌↔◌, ℕ, ℤ, pos, ◌+ℤ◌, Bool, true, false, ◌||◌, ◌&&◌, ◌+◌, ◌<◌, cond, length, List, [], ◌∷◌, ◌++◌, get_or, map, Option, Some, None, is_some, Ordering, Less, Equal, Greater, is_eq, Contains, String, string_bytes, string_cmp, Vec, sym, ap, refl, arith}
use Rattle.std.proofs.lemmas.Bool.{cases_Bool, cond-true, cond-false}
use Rattle.std.proofs.lemmas.List.{get_or_append_left, get_or_push, length-append, length-map, map-append}
use Rattle.std.proofs.lemmas.List.Folds.{list_any-append}
use Rattle.std.proofs.lemmas.List.Sorted.{IsPermutation-map, list_any-IsPermutation}
use Rattle.std.proofs.lemmas.Map.Keys.{apart_from_distinct, sorted_from_all_adjacent}
use Rattle.std.proofs.lemmas.Map.Made.{is_member-Decides}
use Rattle.std.proofs.lemmas.Map.Text.{is_eq-slice_cmp}
use Rattle.std.specs.Cmp.{IsEquivalence, IsTotalOrder, on_equiv, on_total}
use Rattle.std.specs.Cmp.Lexicographic.{lists_equiv, lists_total, pointwise, slice_cmp}
use Rattle.std.specs.declared.alloc.Global.{Global}
use Rattle.std.specs.List.{AllByRecursion, IsDistinct, list_any}
use Rattle.std.specs.List.Sorted.{IsPermutation, IsSorted, IsStrictlySortedBy}
use Rattle.std.specs.Map.{KeepsOthers, keys_of, lookup, update}
use Rattle.std.specs.Ordering.{is_lt, nat_cmp, ordering_reverse, ordering_then}
use Rattle.std.specs.Str.{bytes_eq}
use Rattle.std.specs.String.{string_cmp_total, string_eq, string_eq_equiv}
use Rattle.indexmap.specs.IndexMap.{IndexMap, IsUnique, Updates, get_by, index_of_by, insert_entry, keys, with_value_at}
use Rattle.indexmap.proofs.CallerLemmas.{insert_entry-new, updates-with_value_at}
use Rattle.std.proofs.lemmas.Map.Entries.{hash_map_get_place}
use Rattle.std.proofs.lemmas.List.Quantifiers.{position-Some}
use Rattle.std.proofs.lemmas.Option.{get_or_from_slice_get, slice_get-get_or, slice_get-map, slice_get_within}
use Rattle.std.specs.Prelude.{option_map, slice_get}
use Rattle.fw_select.specs.Groups.{AreTotals, GroupCost, groups_of, is_same, sum_in, total_of}
use Rattle.fw_select.specs.Table.{AddsLine, AreSums, KeepsGroups, added, group_at, has_texts, kept_cmp, kept_eq, kept_total, sums_at, sums_of, texts_of}
use Rattle.fw_select.specs.declared.table.Sums.{Sums}
use Rattle.fw_select.specs.declared.table.Table.{Table}
use Rattle.fw_select.proofs.GroupFacts.{is_same-Decides, is_same-symm, sum_in-more, sum_in-none, sum_in-other, zero_plus}

-- a group as it is kept
abbrev pub Kept : Type 0
Kept = Vec (String Global) Global

-- ---- the sums, with one more line

-- the sums, where there is a line
abbrev pub sums_when : Bool → ℤ → ℤ → ℤ → Option Sums
sums_when there billed effective amount = cond there (Some (record { billed = billed; effective = effective; amount = amount })) None

or_true : (b : Bool) → (b || true) ≡ true
or_true true = refl
or_true false = refl

or_false : (b : Bool) → (b || false) ≡ b
or_false true = refl
or_false false = refl

-- the sums that are kept, with one more line
pub sums_of-more : (costs : List GroupCost) (c : GroupCost) (g : List (List ℕ)) → sums_of (costs ++ c ∷ []) g ≡ update is_same (sums_of costs) c.group (Some (added c (sums_of costs c.group))) g
unfolding sums_of
sums_of-more costs c g = by (is_same g c.group) refl
  where
    there : Bool
    there = list_any (is_same g) (groups_of costs)

    there-more : (b : Bool) → is_same g c.group ≡ b → list_any (is_same g) (groups_of (costs ++ c ∷ [])) ≡ (there || (b || false))
    there-more b e = ap (list_any (is_same g)) (map-append (λ l. l.group) costs (c ∷ [])) ∙ list_any-append (is_same g) (groups_of costs) (c.group ∷ []) ∙ ap (λ x. there || (x || false)) e

    grown : (b : Bool) → there ≡ b → Some (record { billed = sum_in (λ l. l.billed) costs g +ℤ c.billed; effective = sum_in (λ l. l.effective) costs g +ℤ c.effective; amount = sum_in (λ l. l.amount) costs g +ℤ c.amount }) ≡ Some (added c (sums_when b (sum_in (λ l. l.billed) costs g) (sum_in (λ l. l.effective) costs g) (sum_in (λ l. l.amount) costs g)))
    grown true h = refl
    grown false h = λ j. Some (record {
      billed = (ap (λ z. z +ℤ c.billed) (sum_in-none (λ l. l.billed) costs g h) ∙ zero_plus c.billed) j;
      effective = (ap (λ z. z +ℤ c.effective) (sum_in-none (λ l. l.effective) costs g h) ∙ zero_plus c.effective) j;
      amount = (ap (λ z. z +ℤ c.amount) (sum_in-none (λ l. l.amount) costs g h) ∙ zero_plus c.amount) j;
    })

    by : (b : Bool) → is_same g c.group ≡ b → sums_of (costs ++ c ∷ []) g ≡ update is_same (sums_of costs) c.group (Some (added c (sums_of costs c.group))) g
    by true e =
        let same : g ≡ c.group = (is_same-Decides g c.group).0 e in
        let met : is_same c.group g ≡ true = is_same-symm c.group g ∙ e in
        (λ j. sums_when ((there-more true e ∙ or_true there) j) (sum_in-more (λ l. l.billed) costs c g e j) (sum_in-more (λ l. l.effective) costs c g e j) (sum_in-more (λ l. l.amount) costs c g e j))
        ∙ grown there refl
        ∙ ap (λ q. Some (added c (sums_of costs q))) same
        ∙ sym (ap (λ b. cond b (Some (added c (sums_of costs c.group))) (sums_of costs g)) met)
    by false e =
        let met : is_same c.group g ≡ false = is_same-symm c.group g ∙ e in
        (λ j. sums_when ((there-more false e ∙ or_false there) j) (sum_in-other (λ l. l.billed) costs c g e j) (sum_in-other (λ l. l.effective) costs c g e j) (sum_in-other (λ l. l.amount) costs c g e j))
        ∙ sym (ap (λ b. cond b (Some (added c (sums_of costs c.group))) (sums_of costs g)) met)

-- one more line counted
pub AreSums-more : (old new : Table) (costs : List GroupCost) (c : GroupCost) → AreSums old costs → AddsLine old new c → AreSums new (costs ++ c ∷ [])
AreSums-more old new costs c is adds = record {
  sums = λ g.
      adds.sums g ∙ (λ j. update is_same (λ q. is.sums q j) c.group (Some (added c (is.sums c.group j))) g) ∙ sym (sums_of-more costs c g);
}

-- the sums of no lines
pub AreSums-none : (table : Table) → table.by_group.entries ≡ [] → AreSums table []
unfolding sums_of
AreSums-none table none = record { sums = λ g. rw none refl }

-- ---- what a change of the table leaves

-- two groups that are kept are one where their texts are
ties : (xs ys : List (String Global)) → pointwise string_eq xs ys ≡ is_same (map string_bytes xs) (map string_bytes ys)
ties [] [] = refl
ties [] (y ∷ ys) = refl
ties (x ∷ xs) [] = refl
ties (x ∷ xs) (y ∷ ys) = ap (λ b. string_eq x y && b) (ties xs ys)

other_entries : (test : Kept → Bool) (old new : List (Kept × Sums)) → KeepsOthers kept_eq test old new → (g : List (List ℕ)) → ((k : Kept) → test k ≡ true → has_texts g k ≡ false)
    → lookup (has_texts g) new ≡ lookup (has_texts g) old
unfolding KeepsOthers
other_entries test old new h g apart =
    h (has_texts g) (λ x y e. ap (λ l. is_same l (texts_of y)) ((is_same-Decides g (texts_of x)).0 e) ∙ sym (ties x.items y.items)) apart

-- what a look-up by a group that is kept finds
pub at_kept : {S : Type 0} (k : Kept) (m : IndexMap Kept Sums S) → lookup (has_texts (texts_of k)) m.entries ≡ get_by (kept_eq k) m
at_kept k m = λ i. lookup (λ q. sym (ties k.items q.items) i) m.entries

-- a table that has these sums under a group, and else what it had
pub updates : {S : Type 0} (k : Kept) (m n : IndexMap Kept Sums S) (w : Option Sums) → Updates kept_eq m n k w → (g : List (List ℕ))
    → lookup (has_texts g) n.entries ≡ update is_same (λ q. lookup (has_texts q) m.entries) (texts_of k) w g
updates k m n w h g = by (is_same (texts_of k) g) refl
  where
    by : (b : Bool) → is_same (texts_of k) g ≡ b → lookup (has_texts g) n.entries ≡ cond (is_same (texts_of k) g) w (lookup (has_texts g) m.entries)
    by true e =
        let same : texts_of k ≡ g = (is_same-Decides (texts_of k) g).0 e in
        sym (ap (λ q. lookup (has_texts q) n.entries) same) ∙ (λ i. lookup (λ q. sym (ties k.items q.items) i) n.entries) ∙ h.1 ∙ sym (cond-true (is_same (texts_of k) g) w (lookup (has_texts g) m.entries) e)
    by false e =
        other_entries (λ q. kept_eq k q) m.entries n.entries h.3 g
        (λ q t. let same : texts_of k ≡ texts_of q = (is_same-Decides (texts_of k) (texts_of q)).0 (sym (ties k.items q.items) ∙ t) in ap (is_same g) (sym same) ∙ is_same-symm g (texts_of k) ∙ e)
        ∙ sym (cond-false (is_same (texts_of k) g) w (lookup (has_texts g) m.entries) e)

-- two groups that are kept are one by an equivalence
kept_laws : IsEquivalence kept_eq
kept_laws = on_equiv (λ k. k.items) (lists_equiv string_eq_equiv)

-- the group of the entry at a place is its texts
own_group : {S : Type 0} (m : IndexMap Kept Sums S) (place : ℕ) (k : Kept) (v : Sums) (group : List (List ℕ)) → slice_get m.entries place ≡ Some (k, v) → option_map texts_of (slice_get (keys m) place) ≡ Some group
    → texts_of k ≡ group
own_group m place k v group at there =
    let key : slice_get (keys m) place ≡ Some k = slice_get-map (λ (e : Kept × Sums). e.0) m.entries place ∙ ap (option_map (λ (e : Kept × Sums). e.0)) at in
    let same : Some (texts_of k) ≡ Some group = sym (ap (option_map texts_of) key) ∙ there in
    cc

-- what is kept once the sums at a place are others
pub put_at_place : {S : Type 0} (m : IndexMap Kept Sums S) (place : ℕ) (k : Kept) (v w : Sums) (group : List (List ℕ)) → IsUnique kept_eq m → slice_get m.entries place ≡ Some (k, v)
    → option_map texts_of (slice_get (keys m) place) ≡ Some group → (g : List (List ℕ)) → lookup (has_texts g) (with_value_at m place w).entries ≡ update is_same (λ q. lookup (has_texts q) m.entries) group (Some w) g
put_at_place m place k v w group unique at there g =
    updates k m (with_value_at m place w) (Some w) (updates-with_value_at m place w kept_laws unique k v at) g
    ∙ ap (λ t. update is_same (λ q. lookup (has_texts q) m.entries) t (Some w) g) (own_group m place k v group at there)

-- what was kept there
pub had_at_place : {S : Type 0} (m : IndexMap Kept Sums S) (place : ℕ) (k : Kept) (v : Sums) (group : List (List ℕ)) → IsUnique kept_eq m → slice_get m.entries place ≡ Some (k, v)
    → option_map texts_of (slice_get (keys m) place) ≡ Some group → lookup (has_texts group) m.entries ≡ Some v
had_at_place m place k v group unique at there =
    ap (λ t. lookup (has_texts t) m.entries) (sym (own_group m place k v group at there)) ∙ at_kept k m ∙ hash_map_get_place kept_laws m place k v unique at

-- the groups keep their places where the keys stay, or more come behind them
pub keeps_by_keys : (old new : Table) (more : List Kept) → keys new.by_group ≡ keys old.by_group ++ more → KeepsGroups old new
keeps_by_keys old new more same = record { each = λ place group there. by place group (slice_get (keys old.by_group) place) refl there }
  where
    by : (place : ℕ) (group : List (List ℕ)) (o : Option Kept) → slice_get (keys old.by_group) place ≡ o → option_map texts_of (slice_get (keys old.by_group) place) ≡ Some group → group_at new place ≡ Some group
    by place group None at there = let no : None ≡ Some group = sym (ap (option_map texts_of) at) ∙ there in absurd (cc)
    by place group (Some k) at there =
        let below : place < length (keys old.by_group) = slice_get_within (keys old.by_group) place k at in
        let longer : place < length (keys old.by_group ++ more) = let long = length-append (keys old.by_group) more in omega arith in
        let found : slice_get (keys new.by_group) place ≡ Some k =
        ap (λ ks. slice_get ks place) same ∙ slice_get-get_or (keys old.by_group ++ more) place k longer
        ∙ ap Some (get_or_append_left (keys old.by_group) more k place below ∙ get_or_from_slice_get (keys old.by_group) place k k at) in
        ap (option_map texts_of) found ∙ sym (ap (option_map texts_of) at) ∙ there

-- a key that is put behind the others is at the end
pub place_behind : {S : Type 0} (m n : IndexMap Kept Sums S) (k : Kept) (place : ℕ) (group : List (List ℕ)) → keys n ≡ keys m ++ k ∷ [] → place ≡ length m.entries → texts_of k ≡ group
    → option_map texts_of (slice_get (keys n) place) ≡ Some group
place_behind m n k place group same at texts =
    let long : length (keys m) ≡ place = length-map m.entries (λ (e : Kept × Sums). e.0) ∙ sym at in
    let more : length (keys m ++ k ∷ []) ≡ length (keys m) + 1 = length-append (keys m) (k ∷ []) in
    ap (λ ks. option_map texts_of (slice_get ks place)) same
    ∙ ap (option_map texts_of) (slice_get-get_or (keys m ++ k ∷ []) place k (omega arith) ∙ ap Some (get_or_push (keys m) k k place long))
    ∙ ap Some texts

-- the keys, with one more behind them
pub keys_more : {S : Type 0} (m n : IndexMap Kept Sums S) (k : Kept) (v : Sums) (group : List (List ℕ)) → texts_of k ≡ group → lookup (has_texts group) m.entries ≡ None → n.entries ≡ insert_entry kept_eq m.entries k v
    → keys n ≡ keys m ++ k ∷ []
keys_more m n k v group texts none entries =
    let new : get_by (kept_eq k) m ≡ None = sym (at_kept k m) ∙ ap (λ t. lookup (has_texts t) m.entries) texts ∙ none in
    ap (map (λ (e : Kept × Sums). e.0)) (entries ∙ insert_entry-new kept_eq m k v new) ∙ map-append (λ (e : Kept × Sums). e.0) m.entries ((k, v) ∷ [])

-- a group that is found is at its place
pub found_place : {S : Type 0} (m : IndexMap Kept Sums S) (k : Kept) (place : ℕ) → Some place ≡ index_of_by (kept_eq k) m → option_map texts_of (slice_get (keys m) place) ≡ Some (texts_of k)
found_place m k place is =
    let some = position-Some (kept_eq k) (keys m) place k (sym is) in
    let other = get_or (keys m) place k in
    let same : texts_of k ≡ texts_of other = (is_same-Decides (texts_of k) (texts_of other)).0 (sym (ties k.items other.items) ∙ some.1) in
    ap (option_map texts_of) (slice_get-get_or (keys m) place k some.0) ∙ ap Some (sym same)

pub none_is : (o : Option Sums) → false ≡ is_some o → o ≡ None
none_is None h = refl
none_is (Some s) h = absurd (cc)

-- ---- the totals

pub is_eq-then : (r s : Ordering) → is_eq (ordering_then r s) ≡ (is_eq r && is_eq s)
is_eq-then Less s = refl
is_eq-then Equal s = refl
is_eq-then Greater s = refl

-- two groups that are kept tie where their texts are one
cmp_ties : (xs ys : List (String Global)) → is_eq (slice_cmp string_cmp xs ys) ≡ is_same (map string_bytes xs) (map string_bytes ys)
cmp_ties [] [] = refl
cmp_ties [] (y ∷ ys) = refl
cmp_ties (x ∷ xs) [] = refl
cmp_ties (x ∷ xs) (y ∷ ys) = is_eq-then (string_cmp x y) (slice_cmp string_cmp xs ys) ∙ (λ i. is_eq-slice_cmp (string_bytes x) (string_bytes y) i && cmp_ties xs ys i)

kept_order : IsTotalOrder kept_cmp
kept_order = on_total (λ k. k.items) (lists_total string_cmp_total)

-- of two groups that differ, the one that isn't above is below
below : (x y : Kept) → is_lt (kept_cmp y x) ≡ false → kept_eq x y ≡ false → kept_cmp x y ≡ Less
below x y up apart = by (kept_cmp x y) refl
  where
    by : (r : Ordering) → kept_cmp x y ≡ r → kept_cmp x y ≡ Less
    by Less e = e
    by Equal e = let same : kept_eq x y ≡ true = ties x.items y.items ∙ sym (cmp_ties x.items y.items) ∙ ap is_eq e in absurd (cc)
    by Greater e = let back : is_lt (kept_cmp y x) ≡ true = ap is_lt (kept_order.antisymm y x ∙ ap ordering_reverse e) in absurd (cc)

-- groups that are in order and differ rise
rising : (ks : List Kept) → IsSorted kept_cmp ks → IsDistinct kept_eq ks → IsStrictlySortedBy kept_cmp ks
unfolding IsStrictlySortedBy
rising [] sorted apart = tt
rising (k ∷ ks) sorted apart =
    sorted_from_all_adjacent kept_order (k ∷ ks) k (λ i l. below (get_or (k ∷ ks) i k) (get_or (k ∷ ks) (i + 1) k) (sorted i k (omega arith) l) (apart_from_distinct kept_eq (k ∷ ks) i (i + 1) k apart (omega arith) l))

-- the groups that are kept
abbrev pub kept_groups : List (Kept × Sums) → List (List (List ℕ))
kept_groups es = map texts_of (keys_of es)

-- the order of groups that are kept is that of their texts
same_order : (xs ys : List (String Global)) → slice_cmp string_cmp xs ys ≡ slice_cmp (slice_cmp nat_cmp) (map string_bytes xs) (map string_bytes ys)
same_order [] [] = refl
same_order [] (y ∷ ys) = refl
same_order (x ∷ xs) [] = refl
same_order (x ∷ xs) (y ∷ ys) = ap (ordering_then (string_cmp x y)) (same_order xs ys)

each_text : (k : Kept) (ks : List Kept) → AllByRecursion (λ y. kept_cmp k y ≡ Less) ks → AllByRecursion (λ y. slice_cmp (slice_cmp nat_cmp) (texts_of k) y ≡ Less) (map texts_of ks)
each_text k [] h = tt
each_text k (y ∷ ks) h = (sym (same_order k.items y.items) ∙ h.0, each_text k ks h.1)

rising_texts : (ks : List Kept) → IsStrictlySortedBy kept_cmp ks → IsStrictlySortedBy (slice_cmp (slice_cmp nat_cmp)) (map texts_of ks)
unfolding IsStrictlySortedBy
rising_texts [] h = tt
rising_texts (k ∷ ks) h = (each_text k ks h.0, rising_texts ks h.1)

found : (g : List (List ℕ)) (es : List (Kept × Sums)) → is_some (lookup (has_texts g) es) ≡ list_any (is_same g) (kept_groups es)
found g [] = refl
found g (e ∷ es) = let rest = found g es in
    elim (is_same g (texts_of e.0)) as (λ b. is_some (cond b (Some e.1) (lookup (has_texts g) es)) ≡ (b || list_any (is_same g) (kept_groups es))) [ true ↦ refl | false ↦ rest ]

is_some-sums_of : (costs : List GroupCost) (g : List (List ℕ)) → is_some (sums_of costs g) ≡ list_any (is_same g) (groups_of costs)
unfolding sums_of
is_some-sums_of costs g = elim (list_any (is_same g) (groups_of costs)) as (λ b. is_some (cond b (Some sums) None) ≡ b) [ true ↦ refl | false ↦ refl ]
  where
    sums : Sums
    sums = record { billed = sum_in (λ c. c.billed) costs g; effective = sum_in (λ c. c.effective) costs g; amount = sum_in (λ c. c.amount) costs g }

-- what a look-up finds, with another key before the entries
found_behind : (k : Kept) (v : Sums) (all es : List (Kept × Sums)) → AllByRecursion (λ y. kept_eq k y ≡ false) (keys_of es)
    → AllByRecursion (λ e. lookup (kept_eq e.0) all ≡ Some e.1) es → AllByRecursion (λ e. lookup (kept_eq e.0) ((k, v) ∷ all) ≡ Some e.1) es
found_behind k v all [] apart h = tt
found_behind k v all (e ∷ es) apart h =
    let other : kept_eq e.0 k ≡ false = ties e.0.items k.items ∙ is_same-symm (texts_of e.0) (texts_of k) ∙ sym (ties k.items e.0.items) ∙ apart.0 in
    (rw other h.0, found_behind k v all es apart.1 h.1)

-- a look-up finds each entry
found_each : (es : List (Kept × Sums)) → IsDistinct kept_eq (keys_of es) → AllByRecursion (λ e. lookup (kept_eq e.0) es ≡ Some e.1) es
unfolding IsDistinct
found_each [] apart = tt
found_each (e ∷ es) apart =
    let own : kept_eq e.0 e.0 ≡ true = ties e.0.items e.0.items ∙ (is_same-Decides (texts_of e.0) (texts_of e.0)).1 refl in
    (rw own refl, found_behind e.0 e.1 es es apart.0 (found_each es apart.1))

each_weaker : {X : Type 0} (P Q : X → Type 0) → ((x : X) → P x → Q x) → (xs : List X) → AllByRecursion P xs → AllByRecursion Q xs
each_weaker P Q f [] h = tt
each_weaker P Q f (x ∷ xs) h = (f x h.0, each_weaker P Q f xs h.1)

-- sums that are kept are the sums over the lines
kept_is : (costs : List GroupCost) (g : List (List ℕ)) (s : Sums) → sums_of costs g ≡ Some s → s ≡ record { billed = sum_in (λ c. c.billed) costs g; effective = sum_in (λ c. c.effective) costs g; amount = sum_in (λ c. c.amount) costs g }
unfolding sums_of
kept_is costs g s is = by (list_any (is_same g) (groups_of costs)) is
  where
    by : (b : Bool) → cond b (Some (record { billed = sum_in (λ c. c.billed) costs g; effective = sum_in (λ c. c.effective) costs g; amount = sum_in (λ c. c.amount) costs g })) None ≡ Some s → s ≡ record { billed = sum_in (λ c. c.billed) costs g; effective = sum_in (λ c. c.effective) costs g; amount = sum_in (λ c. c.amount) costs g }
    by true h = cc
    by false h = absurd (cc)

kept_totals : (costs : List GroupCost) (es : List (Kept × Sums)) → AllByRecursion (λ e. sums_of costs (texts_of e.0) ≡ Some e.1) es → map kept_total es ≡ map (total_of costs) (kept_groups es)
kept_totals costs [] h = refl
kept_totals costs (e ∷ es) h =
    let sums = kept_is costs (texts_of e.0) e.1 h.0 in
    let rest = kept_totals costs es h.1 in
    λ j. kept_total (e.0, sums j) ∷ rest j

-- the totals, once they are in order
pub totals_from_sorted : (costs : List GroupCost) (old new : List (Kept × Sums)) → ((g : List (List ℕ)) → lookup (has_texts g) old ≡ sums_of costs g)
    → IsPermutation old new → ((q : Kept) → lookup (kept_eq q) new ≡ lookup (kept_eq q) old) → IsSorted kept_cmp (keys_of new) → IsDistinct kept_eq (keys_of new)
    → AreTotals costs (map kept_total new)
totals_from_sorted costs old new sums moved same sorted apart = record {
  groups = kept_groups new;
  are_groups = record {
    rising = rising_texts (keys_of new) (rising (keys_of new) sorted apart);
    each = λ g.
        let test : list_any (is_same g) (kept_groups new) ≡ list_any (is_same g) (groups_of costs) =
        sym (list_any-IsPermutation (is_same g) (kept_groups old) (kept_groups new) (IsPermutation-map texts_of _ _ (IsPermutation-map (λ (e : Kept × Sums). e.0) old new moved)))
        ∙ sym (found g old) ∙ ap is_some (sums g) ∙ is_some-sums_of costs g in
        let there = is_member-Decides is_same-Decides (kept_groups new) g in
        let counted = is_member-Decides is_same-Decides (groups_of costs) g in
        (λ h. counted.0 (sym test ∙ there.1 h), λ h. there.0 (test ∙ counted.1 h));
  };
  totals_are = kept_totals costs new
      (each_weaker (λ (e : Kept × Sums). lookup (kept_eq e.0) new ≡ Some e.1) (λ e. sums_of costs (texts_of e.0) ≡ Some e.1)
      (λ e h. sym (sums (texts_of e.0)) ∙ (λ i. lookup (λ q. sym (ties e.0.items q.items) i) old) ∙ sym (same e.0) ∙ h) new (found_each new apart));
}
