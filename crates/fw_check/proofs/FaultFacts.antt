-- Counting a fault among the findings.
use Rattle.std.proofs.Common.{◌≡◌, ℕ, zero, suc, ◌+◌, ◌<◌, ◌≤◌, Bool, true, false, cond, not, List, [], ◌∷◌, ◌++◌, length, map, get_or, slice_set, refl, sym, ap, subst, ◌∙◌, arith, if◌then◌else◌}
use Rattle.std.proofs.lemmas.List.Sums.{position_or_len_is}
use Rattle.std.specs.List.{position_or_len}
use Rattle.fw_check.specs.Faults.{PlaceValue, FindingValue, finding_value, is_of, noted, one_more}
use Rattle.fw_check.specs.declared.findings.Finding.{Finding}

-- whether a finding is of a code in a column
abbrev pub has_kind : List ℕ → List ℕ → Finding → Bool
has_kind code column f = is_of code column (finding_value f)

-- a finding of one fault, with its places
abbrev pub new_finding : List ℕ → List ℕ → List ℕ → List PlaceValue → FindingValue
new_finding code column expected places = record { code = code; column = column; expected = expected; count = 1; places = places }

module _ (code column expected : List ℕ) (place : PlaceValue) where
  abbrev pub after : List Finding → List FindingValue
  after fs = noted code column expected place (map finding_value fs)

  abbrev pub fresh : FindingValue
  fresh = new_finding code column expected (place ∷ [])

  -- the first finding of its kind counts it
  pub noted_at : (fs : List Finding) (old new : Finding) → position_or_len (has_kind code column) fs < length fs → old ≡ get_or fs (position_or_len (has_kind code column) fs) old
      → finding_value new ≡ one_more place (finding_value old) → map finding_value (slice_set fs (position_or_len (has_kind code column) fs) new) ≡ after fs
  noted_at [] old new within is more = absurd (omega arith)
  noted_at (f ∷ fs) old new within is more = by ((has_kind code column) f) (position_or_len (has_kind code column) fs) within is (λ lt at. noted_at fs old new lt at more)
    where
      by : (b : Bool) (n : ℕ) → cond (not b) (1 + n) 0 < length (f ∷ fs) → old ≡ get_or (f ∷ fs) (cond (not b) (1 + n) 0) old
          → (n < length fs → old ≡ get_or fs n old → map finding_value (slice_set fs n new) ≡ after fs)
          → map finding_value (slice_set (f ∷ fs) (cond (not b) (1 + n) 0) new) ≡ (if b then one_more place (finding_value f) ∷ map finding_value fs else finding_value f ∷ after fs)
      by true n lt at rest = ap (λ v. v ∷ map finding_value fs) (more ∙ ap (λ o. one_more place (finding_value o)) at)
      by false n lt at rest =
          let e : 1 + n ≡ suc n = omega arith in
          let behind : old ≡ get_or fs n old = subst (λ (m : ℕ). old ≡ get_or (f ∷ fs) m old) e at in
          subst (λ (m : ℕ). map finding_value (slice_set (f ∷ fs) m new) ≡ finding_value f ∷ after fs) (sym e) (ap (λ l. finding_value f ∷ l) (rest (omega arith) behind))

  -- where there is none, a new one goes last
  pub noted_new : (fs : List Finding) → length fs ≤ position_or_len (has_kind code column) fs → after fs ≡ map finding_value fs ++ fresh ∷ []
  noted_new [] past = refl
  noted_new (f ∷ fs) past = by ((has_kind code column) f) (position_or_len (has_kind code column) fs) past (noted_new fs)
    where
      by : (b : Bool) (n : ℕ) → length (f ∷ fs) ≤ cond (not b) (1 + n) 0 → (length fs ≤ n → after fs ≡ map finding_value fs ++ fresh ∷ [])
          → (if b then one_more place (finding_value f) ∷ map finding_value fs else finding_value f ∷ after fs) ≡ finding_value f ∷ (map finding_value fs ++ fresh ∷ [])
      by true n past rest = absurd (omega arith)
      by false n past rest = ap (λ l. finding_value f ∷ l) (rest (omega arith))

-- where none passes, none is the first
pub none_passes : {X : Type 0} (p : X → Bool) (xs : List X) → ((k : ℕ) (d : X) → k < length xs → p (get_or xs k d) ≡ false) → position_or_len p xs ≡ length xs
none_passes p [] none = refl
none_passes p (x ∷ xs) none = position_or_len_is p (x ∷ xs) (length (x ∷ xs)) x (omega arith) (λ k lt. none k x lt) (λ lt. absurd (omega arith))
