-- At most one list is what the groups are charged.
use Rattle.std.proofs.Common.{◌≡◌, ℕ, zero, suc, List, [], ◌∷◌, Bool, true, false, arith, refl, sym, subst, ap, ◌∙◌, ℤ, Less, Greater}
use Rattle.std.specs.Bool.{MatchBool}
use Rattle.std.specs.List.{AllZip, Contains}
use Rattle.std.proofs.lemmas.Cmp.{nat_list_cmp_total}
use Rattle.std.specs.Ordering.{ordering_reverse}
use Rattle.fw_shares.proofs.Unique.{signed_shares_same}
use Rattle.fw_terms.specs.Policy.{RuleValue}
use Rattle.fw_terms.specs.Texts.{IsRising}
use Rattle.fw_shares.specs.Shares.{IsSharesOf}
use Rattle.fw_allocate.specs.Charges.{AreCharges, GiftValue, IsGift, charges_with, moves, weights}
use Rattle.fw_allocate.specs.Costs.{CostValue, cost_in}
use Rattle.fw_allocate.proofs.Rising.{order, all_at, apart_from_less, rising_head, rising_tail}

-- ---- gifts
gift_same : (g h : GiftValue) → g.from ≡ h.from → g.given ≡ h.given → g.groups ≡ h.groups → g.shares ≡ h.shares → g ≡ h
gift_same g h p q r s = λ i. record { from = p i; given = q i; groups = r i; shares = s i }

shares_same : (b : Bool) (total : ℤ) (ws s t : List ℤ) → MatchBool b (IsSharesOf total ws s) (s ≡ []) → MatchBool b (IsSharesOf total ws t) (t ≡ []) → s ≡ t
shares_same true total ws s t p q = signed_shares_same total ws s t p q
shares_same false total ws s t p q = p ∙ sym q

one_gift : (direct : List CostValue) (rules : List RuleValue) (rule : RuleValue) (g h : GiftValue) → IsGift direct rules rule g → IsGift direct rules rule h → g ≡ h
one_gift direct rules rule g h p q =
    gift_same g h (p.from ∙ sym q.from) (p.given ∙ sym q.given) (p.groups ∙ sym q.groups)
    (shares_same (moves direct rules rule.give) (cost_in direct rule.from) (weights direct rules rule.give) g.shares h.shares p.shares q.shares)

gifts_same : (direct : List CostValue) (all rules : List RuleValue) (gs hs : List GiftValue) → AllZip (IsGift direct all) rules gs → AllZip (IsGift direct all) rules hs → gs ≡ hs
gifts_same direct all [] [] [] p q = refl
gifts_same direct all [] (g ∷ gs) hs p q = absurd p
gifts_same direct all [] [] (h ∷ hs) p q = absurd q
gifts_same direct all (r ∷ rules) [] hs p q = absurd p
gifts_same direct all (r ∷ rules) (g ∷ gs) [] p q = absurd q
gifts_same direct all (r ∷ rules) (g ∷ gs) (h ∷ hs) p q = rw (one_gift direct all r g h p.0 q.0, gifts_same direct all rules gs hs p.1 q.1) refl

-- ---- groups
here : (g : List ℕ) (gs : List (List ℕ)) → Contains (g ∷ gs) g
here g gs = (0, omega arith, refl)

later : (g x : List ℕ) (gs : List (List ℕ)) → Contains gs x → Contains (g ∷ gs) x
later g x gs c = (suc c.0, omega (arith, c.1), c.2)

-- an element is the first one or a later one
pub first_or_later : {P : Type 0} (g x : List ℕ) (gs : List (List ℕ)) → Contains (g ∷ gs) x → (g ≡ x → P) → (Contains gs x → P) → P
first_or_later g x gs (zero, h, is) first more = first is
first_or_later g x gs (suc k, h, is) first more = more (k, omega (arith, h), is)

-- the first group is below those after it
pub head_below : (g x : List ℕ) (gs : List (List ℕ)) → IsRising (g ∷ gs) → Contains gs x → order g x ≡ Less
head_below g x gs up c = subst (λ y. order g y ≡ Less) c.2 (all_at (λ y. order g y ≡ Less) gs c.0 x (rising_head g gs up) c.1)

cross : (g h : List ℕ) → order g h ≡ Less → order h g ≡ Less → ⊥
cross g h p q = let turned : order g h ≡ Greater = nat_list_cmp_total.antisymm g h ∙ ap ordering_reverse q in cc

heads_same : (g h : List ℕ) (gs hs : List (List ℕ)) → IsRising (g ∷ gs) → IsRising (h ∷ hs) → Contains (h ∷ hs) g → Contains (g ∷ gs) h → g ≡ h
heads_same g h gs hs up vp p q =
    first_or_later h g hs p (λ e. sym e) (λ c. first_or_later g h gs q (λ e. e) (λ d. absurd (cross g h (head_below g h gs up d) (head_below h g hs vp c))))

pub rising_same : (gs hs : List (List ℕ)) → IsRising gs → IsRising hs → ((x : List ℕ) → Contains gs x → Contains hs x) → ((x : List ℕ) → Contains hs x → Contains gs x) → gs ≡ hs
rising_same [] [] up vp to from = refl
rising_same [] (h ∷ hs) up vp to from = absurd (let c = from h (here h hs) in omega (arith, c.1))
rising_same (g ∷ gs) [] up vp to from = absurd (let c = to g (here g gs) in omega (arith, c.1))
rising_same (g ∷ gs) (h ∷ hs) up vp to from =
    let same : g ≡ h = heads_same g h gs hs up vp (to g (here g gs)) (from h (here h hs)) in
    let rest : gs ≡ hs = rising_same gs hs (rising_tail g gs up) (rising_tail h hs vp)
    (λ x c. first_or_later h x hs (to x (later g x gs c)) (λ e. absurd (apart_from_less g x (head_below g x gs up c) (same ∙ e))) (λ d. d))
    (λ x c. first_or_later g x gs (from x (later h x hs c)) (λ e. absurd (apart_from_less h x (head_below h x hs vp c) (sym same ∙ e))) (λ d. d)) in
    rw (same, rest) refl

pub charges_same : (direct : List CostValue) (rules : List RuleValue) (a b : List CostValue) → AreCharges direct rules a → AreCharges direct rules b → a ≡ b
charges_same direct rules a b p q =
    let gifts : p.gifts ≡ q.gifts = gifts_same direct rules rules p.gifts q.gifts p.are_gifts q.are_gifts in
    let groups : p.groups ≡ q.groups = rising_same p.groups q.groups p.are_groups.rising q.are_groups.rising
    (λ x c. (q.are_groups.each x).1 ((p.are_groups.each x).0 c)) (λ x c. (p.are_groups.each x).1 ((q.are_groups.each x).0 c)) in
    p.costs ∙ ap (λ gs. charges_with direct gs p.groups) gifts ∙ ap (charges_with direct q.gifts) groups ∙ sym q.costs
