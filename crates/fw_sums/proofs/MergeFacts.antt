-- Lemmas on sums that are added to other sums.
use Rattle.std.proofs.Common.{◌≡◌, ◌∙◌, ℕ, zero, suc, ◌+◌, ◌*◌, ◌≤◌, ℤ, pos, ◌+ℤ◌, Bool, true, false, ◌||◌, cond, List, [], ◌∷◌, ◌++◌, take, Option, Some, None, String, string_bytes, nat_abs, sym, ap, refl, subst, arith}
use Rattle.std.proofs.lemmas.Int.{ints}
use Rattle.std.proofs.lemmas.Cmp.{nat_list_eq_equiv}
use Rattle.std.proofs.lemmas.Slice.Eq.{bytes_eq-Decides}
use Rattle.std.specs.Prelude.{slice_get}
use Rattle.std.specs.declared.alloc.Global.{Global}
use Rattle.std.specs.List.{AllByRecursion, IsDistinct, list_any}
use Rattle.std.specs.Map.{keys_of, lookup, update}
use Rattle.std.specs.Str.{bytes_eq}
use Rattle.std.specs.String.{string_eq, string_eq_equiv}
use Rattle.fw_cover.proofs.Sorting.{two_ways}
use Rattle.fw_money.specs.Amount.{most_nanos}
use Rattle.fw_sums.specs.Costs.{Cost, groups_of, sum_in}
use Rattle.fw_sums.specs.Sums.{AreSmall, added, sums_of}
use Rattle.fw_sums.specs.declared.groups.Sums.{Sums}
use Rattle.fw_sums.proofs.SortedFacts.{Kept}
use Rattle.fw_sums.proofs.SameFacts.{sum_in-append, there-append}
use Rattle.fw_sums.proofs.SumFacts.{sum_in-none, sums_when}

-- what a group's sums bring as one line
abbrev pub as_line : List ℕ → Sums → Cost
as_line g sums = record { group = g; billed = sums.billed; effective = sums.effective }

-- the sums of a group, with further sums of it
abbrev pub both : List ℕ → Option Sums → Option Sums → Option Sums
both g sums None = sums
both g sums (Some more) = Some (added (as_line g more) sums)

-- the sums that are kept of a group
abbrev pub kept_of : List ℕ → Kept → Option Sums
kept_of g es = lookup (λ k. bytes_eq g (string_bytes k)) es

-- ---- the sums of two lists of lines

zero_plus : (z : ℤ) → pos 0 +ℤ z ≡ z
zero_plus z = omega (arith, ints)

plus_zero : (z : ℤ) → z ≡ z +ℤ pos 0
plus_zero z = omega (arith, ints)

both_when : (g : List ℕ) (x y : Bool) (xb xe yb ye : ℤ) → (x ≡ false → (xb ≡ pos 0) × (xe ≡ pos 0)) → (y ≡ false → (yb ≡ pos 0) × (ye ≡ pos 0))
    → both g (sums_when x xb xe) (sums_when y yb ye) ≡ sums_when (x || y) (xb +ℤ yb) (xe +ℤ ye)
both_when g true true xb xe yb ye xs ys = refl
both_when g true false xb xe yb ye xs ys = let nothing = ys refl in λ j. Some (record { billed = (plus_zero xb ∙ ap (λ z. xb +ℤ z) (sym nothing.0)) j; effective = (plus_zero xe ∙ ap (λ z. xe +ℤ z) (sym nothing.1)) j })
both_when g false true xb xe yb ye xs ys = let nothing = xs refl in λ j. Some (record { billed = (sym (zero_plus yb) ∙ ap (λ z. z +ℤ yb) (sym nothing.0)) j; effective = (sym (zero_plus ye) ∙ ap (λ z. z +ℤ ye) (sym nothing.1)) j })
both_when g false false xb xe yb ye xs ys = refl

-- the sums of the ones, with those of the others, are those of all
pub both_sums : (xs ys : List Cost) (g : List ℕ) → both g (sums_of xs g) (sums_of ys g) ≡ sums_of (xs ++ ys) g
unfolding sums_of
both_sums xs ys g =
    both_when g (list_any (bytes_eq g) (groups_of xs)) (list_any (bytes_eq g) (groups_of ys)) (sum_in (λ c. c.billed) xs g) (sum_in (λ c. c.effective) xs g) (sum_in (λ c. c.billed) ys g) (sum_in (λ c. c.effective) ys g)
    (λ none. (sum_in-none (λ c. c.billed) xs g none, sum_in-none (λ c. c.effective) xs g none))
    (λ none. (sum_in-none (λ c. c.billed) ys g none, sum_in-none (λ c. c.effective) ys g none))
    ∙ (λ j. sums_when (sym (there-append xs ys g) j) (sym (sum_in-append (λ c. c.billed) xs ys g) j) (sym (sum_in-append (λ c. c.effective) xs ys g) j))

pub AreSmall-append : (xs ys : List Cost) (n m : ℕ) → AreSmall xs n → AreSmall ys m → AreSmall (xs ++ ys) (n + m)
AreSmall-append xs ys n m few more = record {
  billed = λ g.
      let a : nat_abs (sum_in (λ c. c.billed) xs g) ≤ most_nanos * n = few.billed g in
      let b : nat_abs (sum_in (λ c. c.billed) ys g) ≤ most_nanos * m = more.billed g in
      rw (sum_in-append (λ c. c.billed) xs ys g) (omega (arith, ints));
  effective = λ g.
      let a : nat_abs (sum_in (λ c. c.effective) xs g) ≤ most_nanos * n = few.effective g in
      let b : nat_abs (sum_in (λ c. c.effective) ys g) ≤ most_nanos * m = more.effective g in
      rw (sum_in-append (λ c. c.effective) xs ys g) (omega (arith, ints));
}

-- ---- one kept group more

last_found : (p : String Global → Bool) (es : Kept) (e : String Global × Sums) → lookup p es ≡ None → p e.0 ≡ true → lookup p (es ++ e ∷ []) ≡ Some e.1
last_found p [] e none it = rw it refl
last_found p (x ∷ es) e none it = two_ways (p x.0)
    (λ here. let found : Some x.1 ≡ None = sym (ap (λ b. cond b (Some x.1) (lookup p es)) here) ∙ none in absurd (cc))
    (λ other. rw other (last_found p es e (sym (ap (λ b. cond b (Some x.1) (lookup p es)) other) ∙ none) it))

last_passed : (p : String Global → Bool) (es : Kept) (e : String Global × Sums) → p e.0 ≡ false → lookup p (es ++ e ∷ []) ≡ lookup p es
last_passed p [] e other = rw other refl
last_passed p (x ∷ es) e other = ap (λ l. cond (p x.0) (Some x.1) l) (last_passed p es e other)

key_at : (P : String Global → Type 0) (es : Kept) (i : ℕ) (e : String Global × Sums) → AllByRecursion P (keys_of es) → slice_get es i ≡ Some e → P e.0
key_at P [] i e all at = absurd (cc)
key_at P (x ∷ es) zero e all at = let same : x ≡ e = cc in subst (λ y. P y.0) same all.0
key_at P (x ∷ es) (suc i) e all at = key_at P es i e all.1 at

-- the group at a place is kept at none before it
pub not_before : (es : Kept) (i : ℕ) (e : String Global × Sums) → IsDistinct string_eq (keys_of es) → slice_get es i ≡ Some e → kept_of (string_bytes e.0) (take i es) ≡ None
unfolding IsDistinct
not_before [] i e apart at = absurd (cc)
not_before (x ∷ es) zero e apart at = refl
not_before (x ∷ es) (suc i) e apart at =
    let other : string_eq e.0 x.0 ≡ false = string_eq_equiv.symm e.0 x.0 ∙ key_at (λ k. string_eq x.0 k ≡ false) es i e apart.0 at in
    ap (λ b. cond b (Some x.1) (kept_of (string_bytes e.0) (take i es))) other ∙ not_before es i e apart.1 at

-- with the group at a place
with_last : (es : Kept) (i : ℕ) (e : String Global × Sums) → slice_get es i ≡ Some e → take (i + 1) es ≡ take i es ++ e ∷ []
with_last [] i e at = absurd (cc)
with_last (x ∷ es) zero e at = let same : x ≡ e = cc in ap (λ y. y ∷ []) same
with_last (x ∷ es) (suc i) e at = let next : suc i + 1 ≡ suc (i + 1) = omega arith in ap (λ k. take k (x ∷ es)) next ∙ ap (λ l. x ∷ l) (with_last es i e at)

module _ (old new start : List ℕ → Option Sums) (es : Kept) (i : ℕ) (e : String Global × Sums) (apart : IsDistinct string_eq (keys_of es)) (at : slice_get es i ≡ Some e)
    (so_far : (g : List ℕ) → old g ≡ both g (start g) (kept_of g (take i es))) where
  -- nothing is added to the group at a place yet
  pub not_yet : old (string_bytes e.0) ≡ start (string_bytes e.0)
  not_yet = so_far (string_bytes e.0) ∙ ap (both (string_bytes e.0) (start (string_bytes e.0))) (not_before es i e apart at)

  -- and then its sums are
  pub one_group : ((g : List ℕ) → new g ≡ update bytes_eq old (string_bytes e.0) (Some (added (as_line (string_bytes e.0) e.1) (old (string_bytes e.0)))) g)
      → (g : List ℕ) → new g ≡ both g (start g) (kept_of g (take (i + 1) es))
  one_group put g = two_ways (bytes_eq (string_bytes e.0) g)
      (λ here.
      let same : string_bytes e.0 ≡ g = (bytes_eq-Decides (string_bytes e.0) g).0 here in
      let met : bytes_eq (string_bytes e.0) (string_bytes e.0) ≡ true = (bytes_eq-Decides (string_bytes e.0) (string_bytes e.0)).1 refl in
      let own : new (string_bytes e.0) ≡ both (string_bytes e.0) (start (string_bytes e.0)) (kept_of (string_bytes e.0) (take (i + 1) es)) =
      put (string_bytes e.0)
      ∙ ap (λ b. cond b (Some (added (as_line (string_bytes e.0) e.1) (old (string_bytes e.0)))) (old (string_bytes e.0))) met
      ∙ ap (λ s. Some (added (as_line (string_bytes e.0) e.1) s)) not_yet
      ∙ ap (both (string_bytes e.0) (start (string_bytes e.0))) (sym (ap (kept_of (string_bytes e.0)) (with_last es i e at) ∙ last_found (λ k. bytes_eq (string_bytes e.0) (string_bytes k)) (take i es) e (not_before es i e apart at) met)) in
      subst (λ q. new q ≡ both q (start q) (kept_of q (take (i + 1) es))) same own)
      (λ other.
      let apart_here : bytes_eq g (string_bytes e.0) ≡ false = nat_list_eq_equiv.symm g (string_bytes e.0) ∙ other in
      put g
      ∙ ap (λ b. cond b (Some (added (as_line (string_bytes e.0) e.1) (old (string_bytes e.0)))) (old g)) other
      ∙ so_far g
      ∙ ap (both g (start g)) (sym (ap (kept_of g) (with_last es i e at) ∙ last_passed (λ k. bytes_eq g (string_bytes k)) (take i es) e apart_here)))
