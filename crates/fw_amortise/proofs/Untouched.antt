-- A row that no commitment applies to changes nothing in the commitments' own lines.
use Rattle.std.proofs.Common.{◌≡◌, ◌∙◌, ℕ, List, [], ◌∷◌, ◌++◌, length, map, refl, sym, ap, subst}
use Rattle.std.specs.List.{AllZip, zip}
use Rattle.std.proofs.lemmas.List.{length-map}
use Rattle.fw_charge.specs.Charge.{Charge}
use Rattle.fw_terms.specs.Commitment.{CommitmentValue}
use Rattle.fw_cover.specs.Hour.{hour_cover, takes_of, unused_of}
use Rattle.fw_cover.specs.Untouched.{IsUntouched, take_past}
use Rattle.fw_cover.specs.declared.taken.Taken.{Taken}
use Rattle.fw_cover.proofs.Untouched.{charge_past, takes_past, unused_past}
use Rattle.fw_shares.specs.Shares.{IsShares}
use Rattle.fw_amortise.specs.LineValue.{LineValue}
use Rattle.fw_amortise.specs.Lines.{AreCommitmentLines, AreLinesAt, AreOwnLines, amount_in, running, shared_lines, used_line, weights_of}

-- ---- the lines of one commitment, whose takes name the rows by their places with the new one
each_weight : (at : ℕ) (ts : List Taken) → map (λ t. t.weight) (map (take_past at) ts) ≡ map (λ t. t.weight) ts
each_weight at [] = refl
each_weight at (t ∷ ts) = ap (λ l. t.weight ∷ l) (each_weight at ts)

same_weights : (at : ℕ) (ts : List Taken) (unused : ℕ) → weights_of (map (take_past at) ts) unused ≡ weights_of ts unused
unfolding weights_of
same_weights at ts unused = rw (each_weight at ts) refl

same_line : (hour : ℕ) (c : CommitmentValue) (before after : List Charge) (row : Charge) (t : Taken) (share : ℕ) → used_line hour c (before ++ row ∷ after) (take_past (length before) t) share ≡ used_line hour c (before ++ after) t share
unfolding used_line
same_line hour c before after row t share = rw (charge_past before after row t.row) refl

same_used : (hour : ℕ) (c : CommitmentValue) (before after : List Charge) (row : Charge) (ts : List Taken) (shares : List ℕ)
    → map (λ p. used_line hour c (before ++ row ∷ after) p.0 p.1) (zip (map (take_past (length before)) ts) shares) ≡ map (λ p. used_line hour c (before ++ after) p.0 p.1) (zip ts shares)
same_used hour c before after row [] shares = refl
same_used hour c before after row (t ∷ ts) [] = refl
same_used hour c before after row (t ∷ ts) (share ∷ shares) = λ j. same_line hour c before after row t share j ∷ same_used hour c before after row ts shares j

same_shared : (hour : ℕ) (c : CommitmentValue) (before after : List Charge) (row : Charge) (ts : List Taken) (shares : List ℕ)
    → shared_lines hour c (before ++ row ∷ after) (map (take_past (length before)) ts) shares ≡ shared_lines hour c (before ++ after) ts shares
unfolding shared_lines
same_shared hour c before after row ts shares = rw (length-map ts (take_past (length before)), same_used hour c before after row ts shares) refl

lines_past : (hour : ℕ) (c : CommitmentValue) (before after : List Charge) (row : Charge) (ts : List Taken) (unused : ℕ) (lines : List LineValue) → AreCommitmentLines hour c (before ++ after) ts unused lines
    → AreCommitmentLines hour c (before ++ row ∷ after) (map (take_past (length before)) ts) unused lines
lines_past hour c before after row ts unused lines are = record {
  shares = are.shares;
  are_shares = subst (λ weights. IsShares (amount_in c hour) weights are.shares) (sym (same_weights (length before) ts unused)) are.are_shares;
  are_lines = are.are_lines ∙ sym (same_shared hour c before after row ts are.shares);
}

-- ---- the lines of all
each_past : (cs : List CommitmentValue) (before after : List Charge) (row : Charge) (hour : ℕ) → IsUntouched cs hour row → (some : List (ℕ × CommitmentValue)) (shared : List (List LineValue))
    → AllZip (AreLinesAt cs (before ++ after) (hour_cover cs (before ++ after) hour) hour) some shared → AllZip (AreLinesAt cs (before ++ row ∷ after) (hour_cover cs (before ++ row ∷ after) hour) hour) some shared
each_past cs before after row hour none [] [] are = tt
each_past cs before after row hour none [] (lines ∷ shared) are = absurd are
each_past cs before after row hour none (c ∷ some) [] are = absurd are
each_past cs before after row hour none (c ∷ some) (lines ∷ shared) are = (
  rw (takes_past cs before after row hour none c.0, unused_past cs before after row hour none c.0)
      (lines_past hour c.1 before after row (takes_of c.0 (hour_cover cs (before ++ after) hour)) (unused_of cs (hour_cover cs (before ++ after) hour) c.0) lines are.0),
  each_past cs before after row hour none some shared are.1,
)

pub own_past : (cs : List CommitmentValue) (before after : List Charge) (row : Charge) (hour : ℕ) (lines : List LineValue) → IsUntouched cs hour row → AreOwnLines cs (before ++ after) hour lines → AreOwnLines cs (before ++ row ∷ after) hour lines
own_past cs before after row hour lines none are = record {
  shared = are.shared;
  are_shared = each_past cs before after row hour none (running cs hour) are.shared are.are_shared;
  are_lines = are.are_lines;
}
