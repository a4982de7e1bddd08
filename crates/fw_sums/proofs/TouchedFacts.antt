-- Lemmas on the hours in which commitments have lines.
use Rattle.std.proofs.Common.{◌≡◌, ◌∙◌, ℕ, zero, suc, ◌+◌, ◌<◌, Bool, true, false, List, [], ◌∷◌, length, map, get_or, replicate, take, refl, sym, ap, arith}
use Rattle.std.specs.Prelude.{◌||◌}
use Rattle.std.specs.List.{list_any, range_with_len}
use Rattle.std.proofs.Math.Bool.{or-false, or_assoc}
use Rattle.std.proofs.lemmas.List.{length-replicate}
use Rattle.std.proofs.lemmas.List.Folds.{list_any_more}
use Rattle.fw_terms.specs.Commitment.{CommitmentValue}
use Rattle.fw_cover.proofs.Sorting.{two_ways}
use Rattle.fw_sums.specs.Hours.{AddsMarks, AreTouched, has_line, is_touched}

-- another test that has the same answers
pub adds_alike : (test other : ℕ → Bool) (from : ℕ) (old new : List Bool) → AddsMarks test from old new → ((k : ℕ) → k < length old → test (from + k) ≡ other (from + k)) → AddsMarks other from old new
adds_alike test other from old new adds alike = record {
  same_length = adds.same_length;
  each = λ k within. adds.each k within ∙ ap (λ b. get_or old k false || b) (alike k within);
  early = adds.early;
}

-- nothing is marked yet
pub adds_none : (test : ℕ → Bool) (from : ℕ) (marks : List Bool) → ((h : ℕ) → test h ≡ false) → AddsMarks test from marks marks
adds_none test from marks none = record {
  same_length = refl;
  each = λ k within. rw (none (from + k)) (sym (or-false (get_or marks k false)));
  early = λ k yes no. absurd (cc);
}

-- more hours are marked
pub adds_more : (test more : ℕ → Bool) (from : ℕ) (old next new : List Bool) → AddsMarks test from old next → AddsMarks more from next new → AddsMarks (λ h. test h || more h) from old new
adds_more test more from old next new first then = record {
  same_length = then.same_length ∙ first.same_length;
  each = λ k within. then.each k (let same = first.same_length in omega (arith, same, within)) ∙ ap (λ b. b || more (from + k)) (first.each k within) ∙ or_assoc (get_or old k false) (test (from + k)) (more (from + k));
  early = λ k yes no. two_ways (get_or next k false) (λ was. first.early k was no) (λ was. then.early k yes was);
}

-- nothing is marked where no mark is true
unmarked : (n k : ℕ) → get_or (replicate n false) k false ≡ false
unmarked zero k = refl
unmarked (suc n) zero = refl
unmarked (suc n) (suc k) = unmarked n k

-- marks that answer a test, each for its hour
answers : (test : ℕ → Bool) (from n : ℕ) (marks : List Bool) → length marks ≡ n → ((k : ℕ) → k < n → get_or marks k false ≡ test (from + k)) → marks ≡ map test (range_with_len from n)
answers test from zero [] long each = refl
answers test from zero (mark ∷ marks) long each = absurd (omega (arith, long))
answers test from (suc n) [] long each = absurd (omega (arith, long))
answers test from (suc n) (mark ∷ marks) long each =
    let first : mark ≡ test from = each 0 (omega arith) ∙ ap test (omega arith) in
    let rest = answers test (from + 1) n marks (omega (arith, long)) (λ k l. each (suc k) (omega (arith, l)) ∙ ap test (omega arith)) in
    λ j. first j ∷ rest j

-- once the lines of all commitments are marked
pub touched_made : (cs : List CommitmentValue) (from hours : ℕ) (marks : List Bool) → AddsMarks (is_touched cs) from (replicate hours false) marks → AreTouched cs from hours marks
touched_made cs from hours marks adds =
    let size = length-replicate hours false in
    record {
      each = answers (is_touched cs) from hours marks (adds.same_length ∙ size)
          (λ k l. adds.each k (omega (arith, size, l)) ∙ ap (λ b. b || is_touched cs (from + k)) (unmarked hours k));
      early = λ k yes. adds.early k yes (unmarked hours k);
    }

-- no commitment yet
pub touched_none : (cs : List CommitmentValue) (from hours : ℕ) → AddsMarks (is_touched []) from (replicate hours false) (replicate hours false)
unfolding is_touched
touched_none cs from hours = adds_none _ from (replicate hours false) (λ h. refl)

-- one commitment more
pub touched_more : (cs : List CommitmentValue) (from i : ℕ) (c : CommitmentValue) (old next new : List Bool) → i < length cs → c ≡ get_or cs i c → AddsMarks (is_touched (take i cs)) from old next → AddsMarks (λ h. has_line h c) from next new
    → AddsMarks (is_touched (take (i + 1) cs)) from old new
unfolding is_touched
touched_more cs from i c old next new inside is before more =
    adds_alike _ _ from old new (adds_more _ _ from old next new before more)
    (λ k within. ap (λ (d : CommitmentValue). list_any (has_line (from + k)) (take i cs) || has_line (from + k) d) is ∙ sym (list_any_more (has_line (from + k)) cs i c inside))
