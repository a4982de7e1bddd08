-- Each gift brings as much as it takes, so the charges sum to the direct costs.
use Rattle.std.proofs.Common.{◌≡◌, ℕ, zero, suc, ◌≤◌, List, [], ◌∷◌, ◌++◌, length, map, Bool, true, false, arith, refl, sym, subst, ap, ◌∙◌, ℤ, pos, ◌+ℤ◌, ◌-ℤ◌, cond, unsigned_abs}
use Rattle.std.proofs.lemmas.Int.{ints}
use Rattle.std.proofs.lemmas.List.{length-map}
use Rattle.std.proofs.lemmas.Simd.{map-map}
use Rattle.std.proofs.lemmas.List.Elements.{All-contains, Contains-append_left, Contains-append_right}
use Rattle.std.specs.Bool.{MatchBool}
use Rattle.std.specs.List.{AllZip, Contains, filter}
use Rattle.fw_shares.specs.Shares.{IsSharesOf, signed_as}
use Rattle.fw_shares.proofs.Signed.{signed_sum}
use Rattle.fw_terms.specs.Policy.{IsPolicy, IsRule, PolicyValue, RuleValue, GiveValue, fixed, proportional, froms, groups_given, targets_of}
use Rattle.fw_terms.specs.Texts.{IsRising}
use Rattle.fw_allocate.specs.Charges.{AreCharges, AreGroups, GiftValue, IsGift, brought_to, charged_to, moves, names, receivers, taken_from, takes_part, weights}
use Rattle.fw_allocate.specs.Costs.{CostValue, amounts_in, cost_in, groups_in, total, total_cost}
use Rattle.fw_allocate.proofs.GiftFacts.{receivers_rising}
use Rattle.fw_allocate.proofs.GroupFacts.{Contains-map}
use Rattle.fw_allocate.proofs.Totals.{sum_of, sum_add, sum_sub, sum_swap, amounts_sum, only, only_once, total_cons}

-- a gift between groups that are there, of as much as it takes
record IsBalanced (groups : List (List ℕ)) (gift : GiftValue) : Type 0 where
  giver : Contains groups gift.from
  rising : IsRising gift.groups
  there : (g : List ℕ) → Contains gift.groups g → Contains groups g
  short : length gift.shares ≤ length gift.groups
  whole : total gift.shares ≡ gift.given

-- ---- a gift is balanced
shares_total : (z : ℤ) (ws s : List ℤ) → IsSharesOf z ws s → total s ≡ z
shares_total z ws s is = ap total is.signed ∙ signed_sum z is.counts is.shares.whole

shares_length : (z : ℤ) (ws s : List ℤ) → IsSharesOf z ws s → length s ≡ length ws
shares_length z ws s is = ap length is.signed ∙ (length-map is.counts (signed_as z) ∙ (is.shares.one_each ∙ length-map ws unsigned_abs))

as_many : (direct : List CostValue) (rules : List RuleValue) (give : GiveValue) → length (weights direct rules give) ≡ length (receivers direct rules give)
as_many direct rules (fixed targets) = length-map targets (λ t. pos t.weight) ∙ sym (length-map targets (λ t. t.group))
as_many direct rules proportional = length-map (filter (takes_part rules) direct) (λ c. c.cost) ∙ sym (length-map (filter (takes_part rules) direct) (λ c. c.group))

balance : (b : Bool) (z given : ℤ) (ws s : List ℤ) → given ≡ cond b z (pos 0) → MatchBool b (IsSharesOf z ws s) (s ≡ []) → (total s ≡ given) × (length s ≤ length ws)
balance true z given ws s e is = (shares_total z ws s is ∙ sym e, let same = shares_length z ws s is in omega arith)
balance false z given ws s e is = (ap total is ∙ sym e, let none : length s ≡ 0 = ap length is in omega arith)

kept_there : (p : CostValue → Bool) (costs : List CostValue) (g : List ℕ) → Contains (groups_in (filter p costs)) g → Contains (groups_in costs) g
kept_there p [] g c = c
kept_there p (x ∷ costs) g c = go (p x) (kept_there p costs g) c
  where
    go : (b : Bool) → (Contains (groups_in (filter p costs)) g → Contains (groups_in costs) g) → Contains (groups_in (cond b (x ∷ filter p costs) (filter p costs))) g → Contains (groups_in (x ∷ costs)) g
    go true rest (zero, h, is) = (zero, omega arith, is)
    go true rest (suc k, h, is) = let d = rest (k, omega (arith, h), is) in (suc d.0, omega (arith, d.1), d.2)
    go false rest c = let d = rest c in (suc d.0, omega (arith, d.1), d.2)

given_there : (rules : List RuleValue) (r : RuleValue) (g : List ℕ) → Contains rules r → Contains (groups_given r.give) g → Contains (targets_of rules) g
given_there [] r g c d = absurd (omega (arith, c.1))
given_there (x ∷ rules) r g (zero, h, is) d = Contains-append_left (groups_given x.give) (targets_of rules) g (subst (λ (y : RuleValue). Contains (groups_given y.give) g) (sym is) d)
given_there (x ∷ rules) r g (suc k, h, is) d = Contains-append_right (groups_given x.give) (targets_of rules) g (given_there rules r g (k, omega (arith, h), is) d)

named : (direct : List CostValue) (rules : List RuleValue) (r : RuleValue) (give : GiveValue) → r.give ≡ give → Contains rules r → (g : List ℕ) → Contains (receivers direct rules give) g → Contains (names direct rules) g
named direct rules r (fixed targets) e c g d =
    Contains-append_right (groups_in direct) (froms rules ++ targets_of rules) g
    (Contains-append_right (froms rules) (targets_of rules) g (given_there rules r g c (subst (λ give. Contains (groups_given give) g) (sym e) d)))
named direct rules r proportional e c g d = Contains-append_left (groups_in direct) (froms rules ++ targets_of rules) g (kept_there (takes_part rules) direct g d)

balanced : (direct : List CostValue) (rules : List RuleValue) (groups : List (List ℕ)) → IsRising (groups_in direct) → AreGroups direct rules groups
    → (r : RuleValue) (gift : GiftValue) → IsRule r → Contains rules r → IsGift direct rules r gift → IsBalanced groups gift
balanced direct rules groups up are r gift limits c is =
    let b = balance (moves direct rules r.give) (cost_in direct r.from) gift.given (weights direct rules r.give) gift.shares is.given is.shares in
    record {
      giver = subst (Contains groups) (sym is.from)
          ((are.each r.from).1 (Contains-append_right (groups_in direct) (froms rules ++ targets_of rules) r.from (Contains-append_left (froms rules) (targets_of rules) r.from (Contains-map (λ (x : RuleValue). x.from) rules r c))));
      rising = subst IsRising (sym is.groups) (receivers_rising direct rules r.give up limits.give);
      there = λ g d. (are.each g).1 (named direct rules r r.give refl c g (subst (λ gs. Contains gs g) is.groups d));
      short = let long = as_many direct rules r.give in let same = ap length is.groups in omega (arith, b.1);
      whole = b.0;
    }

-- what a balanced gift takes and brings, over all groups
taken_sum : (groups : List (List ℕ)) (gift : GiftValue) → IsRising groups → IsBalanced groups gift → sum_of (λ g. taken_from g gift) groups ≡ gift.given
unfolding only
taken_sum groups gift up b = only_once gift.from gift.given groups up b.giver

brought_sum : (groups : List (List ℕ)) (gift : GiftValue) → IsRising groups → IsBalanced groups gift → sum_of (λ g. brought_to g gift) groups ≡ gift.given
brought_sum groups gift up b = amounts_sum groups gift.groups gift.shares up b.rising b.there b.short ∙ b.whole

-- ---- the gifts together
all_balanced : (direct : List CostValue) (all : List RuleValue) (groups : List (List ℕ)) → IsRising (groups_in direct) → AreGroups direct all groups
    → (rules : List RuleValue) (gifts : List GiftValue) → ((r : RuleValue) → Contains rules r → Contains all r × IsRule r) → AllZip (IsGift direct all) rules gifts
    → sum_of (λ gift. sum_of (λ g. taken_from g gift) groups) gifts ≡ sum_of (λ gift. sum_of (λ g. brought_to g gift) groups) gifts
all_balanced direct all groups up are [] [] known zip = refl
all_balanced direct all groups up are [] (x ∷ gifts) known zip = absurd zip
all_balanced direct all groups up are (r ∷ rules) [] known zip = absurd zip
all_balanced direct all groups up are (r ∷ rules) (x ∷ gifts) known zip =
    let mine = known r (0, omega arith, refl) in
    let b = balanced direct all groups up are r x mine.1 mine.0 zip.0 in
    let rest = all_balanced direct all groups up are rules gifts (λ s c. known s (suc c.0, omega (arith, c.1), c.2)) zip.1 in
    total_cons (sum_of (λ g. taken_from g x) groups) (map (λ gift. sum_of (λ g. taken_from g gift) groups) gifts)
    ∙ ap (λ z. z +ℤ sum_of (λ gift. sum_of (λ g. taken_from g gift) groups) gifts) (taken_sum groups x are.rising b ∙ sym (brought_sum groups x are.rising b))
    ∙ ap (λ z. sum_of (λ g. brought_to g x) groups +ℤ z) rest
    ∙ sym (total_cons (sum_of (λ g. brought_to g x) groups) (map (λ gift. sum_of (λ g. brought_to g gift) groups) gifts))

direct_sum : (direct : List CostValue) (rules : List RuleValue) (groups : List (List ℕ)) → IsRising (groups_in direct) → AreGroups direct rules groups → sum_of (cost_in direct) groups ≡ total_cost direct
direct_sum direct rules groups up are =
    amounts_sum groups (groups_in direct) (amounts_in direct) are.rising up (λ g c. (are.each g).1 (Contains-append_left (groups_in direct) (froms rules ++ targets_of rules) g c))
    (let one = length-map direct (λ c. c.group) in let two = length-map direct (λ c. c.cost) in omega arith)

cancels : (a b d : ℤ) → b ≡ d → (a -ℤ b) +ℤ d ≡ a
cancels a b d e = omega (arith, ints)

pub charges_total : (direct : List CostValue) (policy : PolicyValue) (charged : List CostValue) → IsRising (groups_in direct) → IsPolicy policy → AreCharges direct policy.rules charged → total_cost charged ≡ total_cost direct
charges_total direct policy charged up limits p =
    let taken : List ℕ → ℤ = λ g. total (map (taken_from g) p.gifts) in
    let brought : List ℕ → ℤ = λ g. total (map (brought_to g) p.gifts) in
    let same : sum_of taken p.groups ≡ sum_of brought p.groups =
    sum_swap (λ g gift. taken_from g gift) p.groups p.gifts
    ∙ all_balanced direct policy.rules p.groups up p.are_groups policy.rules p.gifts (λ r c. (c, All-contains IsRule policy.rules r limits.rules c)) p.are_gifts
    ∙ sym (sum_swap (λ g gift. brought_to g gift) p.groups p.gifts) in
    ap total_cost p.costs
    ∙ ap total (map-map (λ (c : CostValue). c.cost) (λ g. record { group = g; cost = charged_to direct p.gifts g }) p.groups)
    ∙ sum_add (λ g. cost_in direct g -ℤ taken g) brought p.groups
    ∙ ap (λ z. z +ℤ sum_of brought p.groups) (sum_sub (cost_in direct) taken p.groups)
    ∙ cancels (sum_of (cost_in direct) p.groups) (sum_of taken p.groups) (sum_of brought p.groups) same
    ∙ direct_sum direct policy.rules p.groups up p.are_groups
