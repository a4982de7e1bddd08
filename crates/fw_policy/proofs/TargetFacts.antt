-- The targets of a rule.
use Rattle.std.proofs.Common.{◌≡◌, ◌⊎◌, ◌<◌, ◌≤◌, ℕ, ℤ, zero, suc, pos, List, [], ◌∷◌, ◌++◌, length, map, get_or, Bor, Vec, Global, nat_cmp, Result, Ok, Err, refl, sym, ◌∙◌, ap, inl, inr, subst, arith}
use Rattle.std.specs.Result.{MatchResult}
use Rattle.std.specs.List.{All}
use Rattle.std.specs.List.Sorted.{IsStrictlySortedBy}
use Rattle.std.specs.Cmp.Lexicographic.{slice_cmp}
use Rattle.std.proofs.lemmas.List.{length-map}
use Rattle.std.proofs.lemmas.List.Elements.{All-append}
use Rattle.toml.specs.Data.{Data}
use Rattle.fw_rules.specs.Table.{FirstBroken, NoneBroken}
use Rattle.fw_terms.specs.Policy.{TargetValue, IsTarget, most_text, most_targets}
use Rattle.fw_terms.specs.declared.policy.Target.{Target}
use Rattle.fw_toml.specs.Tree.{IsTableOf, IsInteger, Anything, AreIntegers, integer_member, members_list}
use Rattle.fw_toml.proofs.Readings.{of_integers, integers, integers_are, all_map, of_all_map, whole, of_whole}
use Rattle.fw_toml.proofs.ListFacts.{Found, found-start, found-more, found-all, found-other, map-of_map}
use Rattle.fw_policy.specs.Policy.{IsWeight, AreWeights}
use Rattle.fw_policy.specs.Parts.{IsFault, to_checks, IsSized, weights_of, AreTargetsOf}
use Rattle.fw_policy.specs.declared.fault.PolicyField.TheVariants as field
use Rattle.fw_policy.specs.declared.fault.PolicyFault.{PolicyFault}
use Rattle.fw_policy.specs.declared.fault.PolicyFault.TheVariants as fault

abbrev pub Weighed : Type 0
Weighed = Bor (List ℕ) × ℤ

abbrev pub shown : Weighed → List ℕ × ℤ
shown w = (w.0.now, w.1)

abbrev pub weighed : TargetValue → List ℕ × ℤ
weighed t = (t.group, pos t.weight)

-- the targets that were made of the first of the weights
abbrev pub Made : List Weighed → List TargetValue → List Weighed → Type 0
Made whole_ targets left = Found {D = List ℕ × ℤ} shown weighed whole_ targets left × All IsTarget targets

pub made-start : (ws : List Weighed) → Made ws [] ws
made-start ws = (found-start shown weighed ws ws refl, λ k d lt. absurd (omega arith))

one : (P : TargetValue → Type 0) (t : TargetValue) → P t → All P (t ∷ [])
one P t here zero d lt = here
one P t here (suc j) d lt = absurd (omega arith)

same_weighed : (g h : List ℕ) (z w : ℤ) → g ≡ h → z ≡ w → ◌≡◌ {A = List ℕ × ℤ} (g, z) (h, w)
same_weighed g h z w groups numbers = rw (groups, numbers) refl

pub made-more : (ws : List Weighed) (targets : List TargetValue) (left more : List Weighed) (w : Weighed) (t : TargetValue) → Made ws targets left → left ≡ w ∷ more → t.group ≡ w.0.now → w.1 ≡ pos t.weight → IsTarget t
    → Made ws (targets ++ t ∷ []) more
made-more ws targets left more w t so_far next group number kept =
    (found-more shown weighed ws targets left more w t so_far.0 next (same_weighed w.0.now t.group w.1 (pos t.weight) (sym group) number), All-append IsTarget targets (t ∷ []) so_far.1 (one IsTarget t kept))

pub made-all : (ws : List Weighed) (targets : List TargetValue) (left : List Weighed) → Made ws targets left → left ≡ [] → (map shown ws ≡ weights_of targets) × All IsTarget targets
made-all ws targets left so_far none = (found-all shown weighed ws targets left so_far.0 none, so_far.1)

abbrev pub IsMakeFault : List Weighed → PolicyFault → Type 0
IsMakeFault ws f = (f ≡ fault.NoMemory) ⊎ ((f ≡ fault.Limit field.To) × (¬ All IsSized (map shown ws)))

pub make-fault : (ws : List Weighed) (targets : List TargetValue) (left more : List Weighed) (w : Weighed) (f : PolicyFault) → Made ws targets left → left ≡ w ∷ more
    → (f ≡ fault.NoMemory) ⊎ ((f ≡ fault.Limit field.To) × (¬ IsSized (shown w))) → IsMakeFault ws f
make-fault ws targets left more w f so_far next (inl memory) = inl memory
make-fault ws targets left more w f so_far next (inr large) = inr (large.0, found-other shown weighed ws targets left more w IsSized so_far.0 next large.1)

-- ---- the value under `to`

pub no_weights : (d : Data) → ¬ IsTableOf (λ ms. All (λ m. IsInteger Anything m.1) (members_list ms)) d → IsFault (to_checks d) (fault.Field field.To)
unfolding to_checks FirstBroken
no_weights d other = inr (inl (other, refl))

sized : (zs : List (List ℕ × ℤ)) → AreWeights (map integer_member zs) → (0 < length zs) × (length zs ≤ most_targets) × All IsSized zs
unfolding AreWeights
sized zs (some, few, each) =
    let members = of_all_map (λ m. (length m.0 ≤ most_text) × IsInteger IsWeight m.1) integer_member zs each in
    (rw length-map at some, rw length-map at few, λ k d lt. let m = members k d lt in (m.0, of_whole IsWeight _ _ refl m.1))

of_sized : (zs : List (List ℕ × ℤ)) → 0 < length zs → length zs ≤ most_targets → All IsSized zs → AreWeights (map integer_member zs)
unfolding AreWeights
of_sized zs some few each = (
  rw length-map some,
  rw length-map few,
  all_map (λ m. (length m.0 ≤ most_text) × IsInteger IsWeight m.1) integer_member zs (λ k d lt. let m = each k d lt in (m.0, whole IsWeight _ _ refl m.1)),
)

pub bad_weights : (d : Data) (zs : List (List ℕ × ℤ)) → AreIntegers zs d → ¬ ((0 < length zs) × (length zs ≤ most_targets) × All IsSized zs) → FirstBroken (to_checks d) (fault.Limit field.To)
unfolding to_checks FirstBroken
bad_weights d zs are bad = inr (λ other. other (integers_are d zs are), inl (λ h. bad (sized zs (of_integers AreWeights d zs are h)), refl))

target_sized : (targets : List TargetValue) → All IsTarget targets → All IsSized (weights_of targets)
unfolding IsWeight
target_sized targets each = all_map IsSized weighed targets (λ k d lt. let t = each k d lt in (t.group, ((get_or targets k d).weight, refl, t.weight)))

groups_of : (ws : List Weighed) (targets : List TargetValue) → map shown ws ≡ weights_of targets → map (λ w. w.0.now) ws ≡ map (λ t. t.group) targets
groups_of ws targets same = map-of_map (λ z. z.0) shown ws ∙ (ap (map (λ z. z.0)) same ∙ sym (map-of_map (λ z. z.0) weighed targets))

pub targets_are : (d : Data) (ws : List Weighed) (targets : List TargetValue) → AreIntegers (map shown ws) d → IsStrictlySortedBy (slice_cmp nat_cmp) (map (λ w. w.0.now) ws) → 0 < length ws → length ws ≤ most_targets
    → map shown ws ≡ weights_of targets → All IsTarget targets → AreTargetsOf d targets
unfolding to_checks NoneBroken
targets_are d ws targets are rises some few same each =
    let long : length ws ≡ length targets = sym (length-map ws shown) ∙ (ap (λ zs. length zs) same ∙ length-map targets weighed) in
    let zs_are = subst (λ zs. AreIntegers zs d) same are in
    let weights = of_sized (weights_of targets) (rw length-map (omega arith)) (rw length-map (omega arith)) (target_sized targets each) in
    record {
      are = zs_are;
      kept = record { some = omega arith; few = omega arith; each = each; rising = subst (IsStrictlySortedBy (slice_cmp nat_cmp)) (groups_of ws targets same) rises };
      unbroken = (λ other. other (integers_are d (weights_of targets) zs_are), (λ bad. bad (integers AreWeights d (weights_of targets) zs_are weights), tt));
    }

pub targets_from : (d : Data) (ws : List Weighed) (r : Result (Vec Target Global) PolicyFault) → AreIntegers (map shown ws) d → IsStrictlySortedBy (slice_cmp nat_cmp) (map (λ w. w.0.now) ws) → 0 < length ws → length ws ≤ most_targets
    → MatchResult r (λ targets. (map shown ws ≡ weights_of targets.items) × All IsTarget targets.items) (IsMakeFault ws) → MatchResult r (λ targets. AreTargetsOf d targets.items) (λ f. IsFault (to_checks d) f)
targets_from d ws (Ok targets) are rises some few made = targets_are d ws targets.items are rises some few made.0 made.1
targets_from d ws (Err f) are rises some few (inl memory) = inl memory
targets_from d ws (Err f) are rises some few (inr large) = inr (rw large.0 (bad_weights d (map shown ws) are (λ h. large.1 h.2)))
