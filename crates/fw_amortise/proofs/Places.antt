-- The commitments of a roster stand beside their places.
use Rattle.std.proofs.Common.{◌≡◌, ℕ, ◌<◌, List, [], ◌∷◌, length, map, get_or, arith, ap, ◌∙◌, All, slice_get, Some}
use Rattle.fw_cover.proofs.RosterFacts.{roster_placed}
use Rattle.std.proofs.lemmas.List.{get_or-map, length-map, get_or_default}
use Rattle.std.proofs.lemmas.List.Elements.{All-weaker}
use Rattle.fw_terms.specs.Commitment.{CommitmentValue}
use Rattle.fw_cover.specs.RosterView.{RosterValue, roster_order}

-- a commitment beside its place in a list
pub record IsAt (cs : List CommitmentValue) (c : ℕ × CommitmentValue) : Type 0 where
  pub is : slice_get cs c.0 ≡ Some c.1

pub roster_are_placed : (r : RosterValue) → All (IsAt r.commitments) (roster_order r)
roster_are_placed r = All-weaker (λ c. slice_get r.commitments c.0 ≡ Some c.1) (IsAt r.commitments) (λ c e. record { is = e }) (roster_order r) (roster_placed r)

-- the element of an order at an index, of which the place is known
pub record PlacedAt (cs : List CommitmentValue) (order : List (ℕ × CommitmentValue)) (i place : ℕ) : Type 0 where
  pub c : CommitmentValue
  pub within : i < length order
  pub at : (place, c) ≡ get_or order i (place, c)
  pub is : slice_get cs place ≡ Some c

pub placed_at : (cs : List CommitmentValue) (order : List (ℕ × CommitmentValue)) (places : List ℕ) (i : ℕ) → places ≡ map (λ c. c.0) order → All (IsAt cs) order → i < length places → PlacedAt cs order i (get_or places i 0)
placed_at cs [] places i e all h = absurd (omega (arith, ap length e))
placed_at cs (o ∷ order) places i e all h =
    let inside : i < length (o ∷ order) = omega (arith, h, ap length e, length-map (o ∷ order) (λ c. c.0)) in
    let x : ℕ × CommitmentValue = get_or (o ∷ order) i o in
    let here : get_or places i 0 ≡ x.0 = ap (λ ps. get_or ps i 0) e ∙ get_or-map (λ c. c.0) (o ∷ order) i o 0 inside in
    let is : slice_get cs x.0 ≡ Some x.1 = (all i o inside).is in
    record {
      c = x.1;
      within = inside;
      at = rw here (get_or_default (o ∷ order) i o x inside);
      is = rw here is;
    }
