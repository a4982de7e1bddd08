-- The lines of a row to which some commitment applies, or none; and the first and the most of those that count it.
use Rattle.std.proofs.Common.{◌≡◌, ◌∙◌, ℕ, ◌+◌, ◌<◌, Bool, true, false, List, [], ◌∷◌, ◌++◌, Option, None, Some, ap, append-nil, arith, filter, get_or, is_some, length, max, refl, take}
use Rattle.std.specs.List.{list_any}
use Rattle.std.proofs.lemmas.List.{take_more}
use Rattle.std.proofs.lemmas.List.Elements.{filter-append}
use Rattle.fw_charge.specs.Charge.{Charge}
use Rattle.fw_terms.specs.Commitment.{CommitmentValue}
use Rattle.fw_cover.specs.Applies.{applied}
use Rattle.fw_cover.proofs.Sorting.{two_ways}
use Rattle.fw_finops.specs.Lines.{applies, counts, counts_at, coverable_line, coverable_of, eligible_of, first_or, most_of, most_usable, open_lines_of, unit_line, unit_lines_of}
use Rattle.fw_finops.specs.Usable.{usable}

none_passes : {X : Type 0} (p : X → Bool) (xs : List X) → list_any p xs ≡ false → filter p xs ≡ []
none_passes p [] none = refl
none_passes p (x ∷ xs) none = two_ways (p x)
    (λ holds. absurd (let e : true ≡ false = rw holds at none in cc))
    (λ fails. rw fails (none_passes p xs (rw fails at none)))

-- a commitment that doesn't apply counts nothing
uncounted : (hour : ℕ) (row : Charge) (cost : Bool) (c : CommitmentValue) → applies hour row c ≡ false → counts hour row cost c ≡ false
unfolding applies counts
uncounted hour row cost c none = by (applied c hour row) none
  where
    by : (o : Option (Option ℕ)) → is_some o ≡ false → counts_at cost o ≡ false
    by None e = refl
    by (Some rate) e = absurd (cc)

none_counts : (hour : ℕ) (row : Charge) (cost : Bool) (cs : List CommitmentValue) → list_any (applies hour row) cs ≡ false → filter (counts hour row cost) cs ≡ []
none_counts hour row cost [] none = refl
none_counts hour row cost (c ∷ cs) none = two_ways (applies hour row c)
    (λ holds. absurd (let e : true ≡ false = rw holds at none in cc))
    (λ fails. rw (uncounted hour row cost c fails) (none_counts hour row cost cs (rw fails at none)))

pub none_open : (cs : List CommitmentValue) (hour : ℕ) (row : Charge) → list_any (applies hour row) cs ≡ false → open_lines_of cs hour row ≡ []
unfolding open_lines_of eligible_of unit_lines_of coverable_of
none_open cs hour row none = rw (none, none_passes (applies hour row) cs none, none_counts hour row false cs none, none_counts hour row true cs none) refl

pub some_open : (cs : List CommitmentValue) (hour : ℕ) (row : Charge) → list_any (applies hour row) cs ≡ true → open_lines_of cs hour row ≡ eligible_of cs hour row ++ (unit_lines_of cs hour row ++ coverable_line hour row ∷ [])
unfolding open_lines_of coverable_of
some_open cs hour row some = rw some refl

-- ---- one commitment more

-- the first of commitments
abbrev pub first_in : List CommitmentValue → Option CommitmentValue
first_in [] = None
first_in (c ∷ cs) = Some c

first_push : (cs : List CommitmentValue) (c : CommitmentValue) → first_in (cs ++ c ∷ []) ≡ first_or (first_in cs) c
first_push [] c = refl
first_push (d ∷ cs) c = refl

most_push : (hour : ℕ) (row : Charge) (cs : List CommitmentValue) (c : CommitmentValue) → most_usable hour row (cs ++ c ∷ []) ≡ max (most_usable hour row cs) (usable hour row c)
most_push hour row [] c = omega arith
most_push hour row (d ∷ cs) c = let rest = most_push hour row cs c in omega (arith, rest)

passes_more : (p : CommitmentValue → Bool) (cs : List CommitmentValue) (i : ℕ) (d : CommitmentValue) → i < length cs → p (get_or cs i d) ≡ true → filter p (take (i + 1) cs) ≡ filter p (take i cs) ++ get_or cs i d ∷ []
passes_more p cs i d below holds = ap (filter p) (take_more cs i d below) ∙ filter-append p (take i cs) (get_or cs i d ∷ []) ∙ (rw holds refl)

pub fails_more : (p : CommitmentValue → Bool) (cs : List CommitmentValue) (i : ℕ) (d : CommitmentValue) → i < length cs → p (get_or cs i d) ≡ false → filter p (take (i + 1) cs) ≡ filter p (take i cs)
fails_more p cs i d below fails = ap (filter p) (take_more cs i d below) ∙ filter-append p (take i cs) (get_or cs i d ∷ []) ∙ (rw fails (append-nil (filter p (take i cs))))

pub first_more : (p : CommitmentValue → Bool) (cs : List CommitmentValue) (i : ℕ) (d : CommitmentValue) → i < length cs → p (get_or cs i d) ≡ true
    → first_in (filter p (take (i + 1) cs)) ≡ first_or (first_in (filter p (take i cs))) (get_or cs i d)
first_more p cs i d below holds = ap first_in (passes_more p cs i d below holds) ∙ first_push (filter p (take i cs)) (get_or cs i d)

pub most_more : (hour : ℕ) (row : Charge) (p : CommitmentValue → Bool) (cs : List CommitmentValue) (i : ℕ) (d : CommitmentValue) → i < length cs → p (get_or cs i d) ≡ true
    → most_usable hour row (filter p (take (i + 1) cs)) ≡ max (most_usable hour row (filter p (take i cs))) (usable hour row (get_or cs i d))
most_more hour row p cs i d below holds = ap (most_usable hour row) (passes_more p cs i d below holds) ∙ most_push hour row (filter p (take i cs)) (get_or cs i d)

-- the line of those that count a row
pub some_most : (hour : ℕ) (row : Charge) (cs : List CommitmentValue) (c : CommitmentValue) → Some c ≡ first_in cs → most_of hour row cs ≡ unit_line hour row c (most_usable hour row cs) ∷ []
some_most hour row [] c e = absurd (cc)
some_most hour row (d ∷ cs) c e = ap (λ (f : CommitmentValue). unit_line hour row f (most_usable hour row (d ∷ cs)) ∷ []) (some_same e)
  where
    some_same : Some c ≡ Some d → d ≡ c
    some_same e = cc

pub none_most : (hour : ℕ) (row : Charge) (cs : List CommitmentValue) → None ≡ first_in cs → most_of hour row cs ≡ []
none_most hour row [] e = refl
none_most hour row (d ∷ cs) e = absurd (cc)
