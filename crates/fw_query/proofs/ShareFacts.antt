-- There are shares by largest remainder of each total, over weights of which some is above 0.
use Rattle.std.proofs.Common.{◌≡◌, ◌+◌, ◌-◌, ◌*◌, ◌/◌, ◌%◌, ◌<◌, ◌≤◌, ◌==◌, ⊎_elim, ℕ, zero, suc, List, [], ◌∷◌, ◌++◌, Bool, arith, refl, subst, cond, count_by, get_or, length, nat_lt, sum, sum_by, take}
use Rattle.std.proofs.Math.Nat.{mod-lt}
use Rattle.std.proofs.lemmas.Bool.Decides.{nat_tests}
use Rattle.std.proofs.lemmas.Bool.{cases_lt}
use Rattle.std.proofs.lemmas.List.{take_all}
use Rattle.std.proofs.lemmas.List.Sums.{sum_by-cons}
use Rattle.fw_shares.specs.Dealing.{IsDealt, cut_unit}
use Rattle.fw_shares.specs.Shares.{IsShares}
use Rattle.fw_shares.proofs.Dealing.{DealtTo, dealt_more, extra_below, floors_le, shares_from_dealt}

-- ---- how many values are above a number, and at it
abbrev above : (ℕ → ℕ) → ℕ → List ℕ → ℕ
above f b ws = count_by (λ w. nat_lt b (f w)) ws

abbrev at_it : (ℕ → ℕ) → ℕ → List ℕ → ℕ
at_it f b ws = count_by (λ w. f w == b) ws

one_down : (m b c : ℕ) → c ≡ b + 1 → cond (nat_lt b m) 1 0 ≡ cond (nat_lt c m) 1 0 + cond (m == c) 1 0
one_down m b c next = grind (arith, nat_tests)

at_zero : (m : ℕ) → 1 ≡ cond (nat_lt 0 m) 1 0 + cond (m == 0) 1 0
at_zero m = grind (arith, nat_tests)

none_above : (m b : ℕ) → m < b → cond (nat_lt b m) 1 0 + 0 ≡ 0
none_above m b below = grind (arith, nat_tests)

count_cons : (p : ℕ → Bool) (w : ℕ) (ws : List ℕ) → count_by p (w ∷ ws) ≡ cond (p w) 1 0 + count_by p ws
count_cons p w ws = sum_by-cons (λ x. cond (p x) 1 0) w ws

above_down : (f : ℕ → ℕ) (b c : ℕ) → c ≡ b + 1 → (ws : List ℕ) → above f b ws ≡ above f c ws + at_it f c ws
above_down f b c next [] = refl
above_down f b c next (w ∷ ws) =
    omega (
      arith,
      count_cons (λ w. nat_lt b (f w)) w ws,
      count_cons (λ w. nat_lt c (f w)) w ws,
      count_cons (λ w. f w == c) w ws,
      one_down (f w) b c next,
      above_down f b c next ws,
    )

above_zero : (f : ℕ → ℕ) (ws : List ℕ) → length ws ≡ above f 0 ws + at_it f 0 ws
above_zero f [] = refl
above_zero f (w ∷ ws) = omega (arith, count_cons (λ w. nat_lt 0 (f w)) w ws, count_cons (λ w. f w == 0) w ws, at_zero (f w), above_zero f ws)

above_none : (f : ℕ → ℕ) (b : ℕ) → ((w : ℕ) → f w < b) → (ws : List ℕ) → above f b ws ≡ 0
above_none f b below [] = refl
above_none f b below (w ∷ ws) = omega (arith, count_cons (λ w. nat_lt b (f w)) w ws, none_above (f w) b (below w), above_none f b below ws)

-- ---- a cut that gives away so many units
record HasCut (f : ℕ → ℕ) (ws : List ℕ) (extra : ℕ) : Type 0 where
  at : ℕ
  ties : ℕ
  all : above f at ws + ties ≡ extra
  enough : ties ≤ at_it f at ws

-- from a number above which there aren't too many, downwards
cut_from : (f : ℕ → ℕ) (ws : List ℕ) (extra : ℕ) → extra < length ws → (b : ℕ) → above f b ws ≤ extra → HasCut f ws extra
cut_from f ws extra few zero low =
    record { at = 0; ties = extra - above f 0 ws; all = omega (arith, low); enough = omega (arith, low, few, above_zero f ws) }
cut_from f ws extra few (suc b) low =
    let down : above f b ws ≡ above f (suc b) ws + at_it f (suc b) ws = above_down f b (suc b) (omega arith) ws in
    ⊎_elim
    (λ more. record { at = suc b; ties = extra - above f (suc b) ws; all = omega (arith, low); enough = omega (arith, low, more, down) })
    (λ within. cut_from f ws extra few b (omega (arith, within)))
    (cases_lt extra (above f b ws))

-- ---- dealing
record HasDealt (n whole : ℕ) (ws : List ℕ) (at ties : ℕ) (i : ℕ) : Type 0 where
  s : List ℕ
  left : ℕ
  dealt : DealtTo n whole ws (record { at = at; ties = ties }) i s left

dealt_to : (n whole : ℕ) (ws : List ℕ) (at ties : ℕ) (i : ℕ) → i ≤ length ws → HasDealt n whole ws at ties i
dealt_to n whole ws at ties zero within = record {
  s = [];
  left = ties;
  dealt = record { one_each = refl; each = λ k below. absurd (omega (arith, below)); left_is = omega arith; total = omega arith };
}
dealt_to n whole ws at ties (suc i) within =
    let before = dealt_to n whole ws at ties i (omega (arith, within)) in
    let w = get_or ws i 0 in
    let u = cut_unit (nat_lt at (n * w % whole)) (n * w % whole == at) (nat_lt 0 before.left) in
    let left = before.left - cond (n * w % whole == at) 1 0 in
    let more : DealtTo n whole ws (record { at = at; ties = ties }) (i + 1) (before.s ++ (n * w / whole + u) ∷ []) left = dealt_more n whole ws (record { at = at; ties = ties }) i before.s before.left w u left (omega (arith, within)) refl before.dealt refl refl in
    let next : i + 1 ≡ suc i = omega arith in
    record {
      s = before.s ++ (n * w / whole + u) ∷ [];
      left = left;
      dealt = subst (λ (j : ℕ). DealtTo n whole ws (record { at = at; ties = ties }) j (before.s ++ (n * w / whole + u) ∷ []) left) next more;
    }

dealt_all : (n whole : ℕ) (ws : List ℕ) (at ties : ℕ) (s : List ℕ) (left : ℕ) → ties ≤ count_by (λ w. n * w % whole == at) ws
    → DealtTo n whole ws (record { at = at; ties = ties }) (length ws) s left → IsDealt n whole ws (record { at = at; ties = ties }) s
dealt_all n whole ws at ties s left enough d =
    let whole_list : take (length ws) ws ≡ ws = take_all (length ws) ws (omega arith) in
    let none = rw whole_list at d.left_is in
    let all = rw whole_list at d.total in
    record { one_each = d.one_each; each = d.each; total = omega (arith, none, all, enough) }

pub shares_exist : (n : ℕ) (ws : List ℕ) → 0 < sum ws → (s : List ℕ) × IsShares n ws s
shares_exist n ws some =
    let whole = sum ws in
    let floors = sum_by (λ w. n * w / whole) ws in
    let few : n - floors < length ws = extra_below n whole ws refl some in
    let within : floors ≤ n = floors_le n whole ws refl some in
    let f : ℕ → ℕ = λ w. n * w % whole in
    let has = cut_from f ws (n - floors) few whole (omega (arith, above_none f whole (λ w. mod-lt (n * w) some) ws)) in
    let dealt = dealt_to n whole ws has.at has.ties (length ws) (omega arith) in
    let all : floors + count_by (λ w. nat_lt has.at (n * w % whole)) ws + has.ties ≡ n = omega (arith, has.all, within) in (
      dealt.s,
      shares_from_dealt n whole ws (record { at = has.at; ties = has.ties }) dealt.s refl all (dealt_all n whole ws has.at has.ties dealt.s dealt.left has.enough dealt.dealt),
    )
