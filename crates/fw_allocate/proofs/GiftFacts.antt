-- What a rule moves is within the limits.
use Rattle.std.proofs.Common.{◌≡◌, ℕ, zero, suc, ◌+◌, ◌*◌, ◌^◌, ◌<◌, ◌≤◌, List, [], ◌∷◌, length, map, sum, Bool, true, false, ◌&&◌, arith, refl, ℤ, pos, negsuc, ◌≤ℤ◌, cond, bytes_eq, Less, unsigned_abs, All}
use Rattle.std.specs.Prelude.{int_lt}
use Rattle.std.specs.List.{AllByRecursion, filter}
use Rattle.std.specs.List.Sorted.{IsStrictlySortedBy}
use Rattle.std.proofs.lemmas.List.Elements.{All-head, All-tail, All-cons, All-nil, All-map, All-weaker}
use Rattle.std.proofs.lemmas.List.Sums.{sum_by-cons}
use Rattle.std.proofs.lemmas.Int.{ints}
use Rattle.fw_shares.specs.Shares.{IsSharesOf, magnitudes, signed_as}
use Rattle.fw_shares.proofs.Signed.{shares_small}
use Rattle.fw_terms.specs.Policy.{most_targets, TargetValue, IsTarget, GiveValue, fixed, proportional, IsGive, RuleValue}
use Rattle.fw_terms.specs.Texts.{IsRising}
use Rattle.fw_allocate.specs.Charges.{receivers, takes_part, weights}
use Rattle.fw_allocate.specs.Costs.{CostValue, amount_of, amounts_in, cost_in, groups_in, size_of}
use Rattle.fw_allocate.proofs.Rising.{order}

-- ---- bounds
pub cost_small : (costs : List CostValue) (g : List ℕ) → unsigned_abs (cost_in costs g) ≤ size_of costs
unfolding amount_of
cost_small [] g = omega arith
cost_small (c ∷ costs) g = rw (sum_by-cons (λ (e : CostValue). unsigned_abs e.cost) c costs) (go (bytes_eq c.group g) (cost_small costs g))
  where
    go : (b : Bool) → unsigned_abs (cost_in costs g) ≤ size_of costs → unsigned_abs (cond b c.cost (cost_in costs g)) ≤ unsigned_abs c.cost + size_of costs
    go true rest = omega arith
    go false rest = omega arith

fixed_sum : (targets : List TargetValue) → All IsTarget targets → sum (magnitudes (map (λ t. pos t.weight) targets)) ≤ length targets * 1000000000
fixed_sum [] each = omega arith
fixed_sum (t ∷ targets) each =
    let here : t.weight ≤ 1000000000 = (All-head IsTarget t targets each).weight in
    let rest = fixed_sum targets (All-tail IsTarget t targets each) in
    rw (sum_by-cons (λ (x : ℕ). x) t.weight (magnitudes (map (λ (t : TargetValue). pos t.weight) targets))) (omega arith)

proportional_sum : (p : CostValue → Bool) (costs : List CostValue) → sum (magnitudes (amounts_in (filter p costs))) ≤ size_of costs
proportional_sum p [] = omega arith
proportional_sum p (c ∷ costs) = rw (sum_by-cons (λ (e : CostValue). unsigned_abs e.cost) c costs) (go (p c) (proportional_sum p costs))
  where
    go : (b : Bool) → sum (magnitudes (amounts_in (filter p costs))) ≤ size_of costs → sum (magnitudes (amounts_in (cond b (c ∷ filter p costs) (filter p costs)))) ≤ unsigned_abs c.cost + size_of costs
    go true rest = rw (sum_by-cons (λ (x : ℕ). x) (unsigned_abs c.cost) (magnitudes (amounts_in (filter p costs)))) (omega arith)
    go false rest = omega arith

pub weights_small : (direct : List CostValue) (rules : List RuleValue) (give : GiveValue) → size_of direct ≤ 10 ^ 19 → IsGive give → sum (magnitudes (weights direct rules give)) ≤ 10 ^ 19
weights_small direct rules (fixed targets) small is = let few : length targets ≤ most_targets = is.few in omega (arith, fixed_sum targets is.each)
weights_small direct rules proportional small is = omega (arith, proportional_sum (takes_part rules) direct)

-- ---- signs
positive : (z : ℤ) (b : Bool) → (int_lt (pos 0) z && b) ≡ true → pos 0 ≤ℤ z
positive z b e = grind (arith, ints)

proportional_signs : (rules : List RuleValue) (costs : List CostValue) → All (λ w. pos 0 ≤ℤ w) (amounts_in (filter (takes_part rules) costs))
proportional_signs rules [] = All-nil (λ w. pos 0 ≤ℤ w)
proportional_signs rules (c ∷ costs) = go (takes_part rules c) refl (proportional_signs rules costs)
  where
    go : (b : Bool) → takes_part rules c ≡ b → All (λ w. pos 0 ≤ℤ w) (amounts_in (filter (takes_part rules) costs))
        → All (λ w. pos 0 ≤ℤ w) (amounts_in (cond b (c ∷ filter (takes_part rules) costs) (filter (takes_part rules) costs)))
    go true e rest = All-cons (λ w. pos 0 ≤ℤ w) c.cost (amounts_in (filter (takes_part rules) costs)) (positive c.cost _ e) rest
    go false e rest = rest

pub weights_signs : (direct : List CostValue) (rules : List RuleValue) (give : GiveValue) → All (λ w. pos 0 ≤ℤ w) (weights direct rules give)
weights_signs direct rules (fixed targets) = All-map (λ w. pos 0 ≤ℤ w) (λ t. pos t.weight) targets (λ k d h. omega (arith, ints))
weights_signs direct rules proportional = proportional_signs rules direct

-- ---- order
kept_above : (g : List ℕ) (p : CostValue → Bool) (costs : List CostValue) → AllByRecursion (λ y. order g y ≡ Less) (groups_in costs) → AllByRecursion (λ y. order g y ≡ Less) (groups_in (filter p costs))
kept_above g p [] h = h
kept_above g p (c ∷ costs) h = go (p c) (kept_above g p costs h.1)
  where
    go : (b : Bool) → AllByRecursion (λ y. order g y ≡ Less) (groups_in (filter p costs)) → AllByRecursion (λ y. order g y ≡ Less) (groups_in (cond b (c ∷ filter p costs) (filter p costs)))
    go true rest = (h.0, rest)
    go false rest = rest

pub kept_rising : (p : CostValue → Bool) (costs : List CostValue) → IsRising (groups_in costs) → IsRising (groups_in (filter p costs))
unfolding IsStrictlySortedBy
kept_rising p [] up = up
kept_rising p (c ∷ costs) up = go (p c) (kept_rising p costs up.1)
  where
    go : (b : Bool) → IsRising (groups_in (filter p costs)) → IsRising (groups_in (cond b (c ∷ filter p costs) (filter p costs)))
    go true rest = (kept_above c.group p costs up.0, rest)
    go false rest = rest

pub receivers_rising : (direct : List CostValue) (rules : List RuleValue) (give : GiveValue) → IsRising (groups_in direct) → IsGive give → IsRising (receivers direct rules give)
receivers_rising direct rules (fixed targets) up is = is.rising
receivers_rising direct rules proportional up is = kept_rising (takes_part rules) direct up

-- ---- shares
abs_signed : (z : ℤ) (n : ℕ) → unsigned_abs (signed_as z n) ≡ n
abs_signed (pos m) n = refl
abs_signed (negsuc m) zero = refl
abs_signed (negsuc m) (suc n) = refl

pub shares_bounded : (total : ℤ) (ws s : List ℤ) (m : ℕ) → unsigned_abs total ≤ m → IsSharesOf total ws s → All (λ x. unsigned_abs x ≤ m) s
shares_bounded total ws s m small is =
    let counts = shares_small (unsigned_abs total) (magnitudes ws) is.counts (suc m) (omega arith) is.shares in
    rw is.signed (All-map (λ x. unsigned_abs x ≤ m) (signed_as total) is.counts (All-weaker (λ n. n < suc m) (λ n. unsigned_abs (signed_as total n) ≤ m) (λ n h. rw (abs_signed total n) (omega arith)) is.counts counts))
