-- Facts on lists that are packed: what stands at a place, and what one more list adds.
use Rattle.std.proofs.Common.{◌≡◌, ℕ, zero, suc, ◌-◌, ◌<◌, ◌≤◌, Bool, true, false, List, [], ◌∷◌, ◌++◌, length, get_or, drop, refl, sym, ap, ◌∙◌, arith, length-append, length-drop, Some, None, position}
use Rattle.std.specs.Prelude.{slice_get, slice_range}
use Rattle.std.specs.List.{position_or_len}
use Rattle.std.proofs.lemmas.Bool.{lt-ltb, le-ltb}
use Rattle.std.proofs.lemmas.List.{take_all, take-append-le, drop-append-le}
use Rattle.std.proofs.lemmas.List.Sums.{position_or_len_is}
use Rattle.std.proofs.lemmas.Option.{slice_get_within, get_or_from_slice_get}
use Rattle.std.proofs.Math.Seq.{drop-append_seam}
use Rattle.fw_row_table.specs.Packed.{pieces, AreEnds, start_of}

pub length-pieces : {X : Type 0} (start : ℕ) (values : List X) (ends : List ℕ) → length (pieces start values ends) ≡ length ends
unfolding pieces
length-pieces start values [] = refl
length-pieces start values (end ∷ ends) = rw (length-pieces end values ends) refl

-- no end is past the values
pub ends_within : (start total : ℕ) (ends : List ℕ) → AreEnds start total ends → start ≤ total
unfolding AreEnds
ends_within start total [] h = omega (arith, h)
ends_within start total (end ∷ ends) h = let rest : end ≤ total = ends_within end total ends h.1 in let here : start ≤ end = h.0 in omega arith

-- a list lies within the values
pub record IsRange (start end total : ℕ) : Type 0 where
  pub rises : start ≤ end
  pub within : end ≤ total

pub range_at : (start total : ℕ) (ends : List ℕ) (place : ℕ) → AreEnds start total ends → place < length ends → IsRange (start_of start ends place) (get_or ends place 0) total
unfolding AreEnds start_of
range_at start total [] place h lt = absurd (omega arith)
range_at start total (end ∷ ends) zero h lt = record { rises = h.0; within = ends_within end total ends h.1 }
range_at start total (end ∷ ends) (suc zero) h lt = range_at end total ends zero h.1 (omega arith)
range_at start total (end ∷ ends) (suc (suc place)) h lt = range_at end total ends (suc place) h.1 (omega arith)

pub piece_at : {X : Type 0} (start : ℕ) (values : List X) (ends : List ℕ) (place : ℕ) → place < length ends
    → slice_get (pieces start values ends) place ≡ Some (slice_range values (start_of start ends place) (get_or ends place 0))
unfolding pieces start_of
piece_at start values [] place lt = absurd (omega arith)
piece_at start values (end ∷ ends) zero lt = refl
piece_at start values (end ∷ ends) (suc zero) lt = piece_at end values ends zero (omega arith)
piece_at start values (end ∷ ends) (suc (suc place)) lt = piece_at end values ends (suc place) (omega arith)

-- what stands before the end of values stays where more come
range_kept : {X : Type 0} (values more : List X) (start end : ℕ) → start ≤ end → end ≤ length values → slice_range (values ++ more) start end ≡ slice_range values start end
range_kept values more start end rises within =
    rw (drop-append-le start values more (omega arith)) (take-append-le (end - start) (drop start values) more (rw (length-drop start values) (omega arith)))

-- and what comes is the list behind it
range_new : {X : Type 0} (values more : List X) → slice_range (values ++ more) (length values) (length (values ++ more)) ≡ more
range_new values more = rw (drop-append_seam values more) (take_all (length (values ++ more) - length values) more (rw (length-append values more) (omega arith)))

-- one more list
pub ends_more : (start total more : ℕ) (ends : List ℕ) → AreEnds start total ends → total ≤ more → AreEnds start more (ends ++ more ∷ [])
unfolding AreEnds
ends_more start total more [] h le = (rw h le, refl)
ends_more start total more (end ∷ ends) h le = (h.0, ends_more end total more ends h.1 le)

pub pieces_more : {X : Type 0} (start : ℕ) (values more : List X) (ends : List ℕ) → AreEnds start (length values) ends
    → pieces start (values ++ more) (ends ++ length (values ++ more) ∷ []) ≡ pieces start values ends ++ more ∷ []
unfolding pieces AreEnds
pieces_more start values more [] h = rw (h, range_new values more) refl
pieces_more start values more (end ∷ ends) h =
    rw (range_kept values more start end h.0 (ends_within end (length values) ends h.1), pieces_more end values more ends h.1) refl

pub packed_more : {X : Type 0} (values more : List X) (ends : List ℕ) (shown : List (List X)) (values' : List X) (ends' : List ℕ) (end : ℕ) → pieces 0 values ends ≡ shown → AreEnds 0 (length values) ends
    → values' ≡ values ++ more → ends' ≡ ends ++ end ∷ [] → end ≡ length values' → AreEnds 0 (length values') ends' × (pieces 0 values' ends' ≡ shown ++ more ∷ [])
packed_more values more ends shown values' ends' end view h grown pushed is = (
  rw (pushed, is, grown) (ends_more 0 (length values) (length (values ++ more)) ends h (rw (length-append values more) (omega arith))),
  rw (pushed, is, grown, pieces_more 0 values more ends h, view) refl,
)

-- what the list at a place is, in values and ends that show lists
pub record IsListAt {X : Type 0} (values : List X) (ends : List ℕ) (shown : List (List X)) (place : ℕ) : Type 0 where
  pub below : place < length ends
  pub rises : start_of 0 ends place ≤ get_or ends place 0
  pub within : get_or ends place 0 ≤ length values
  pub is : slice_get shown place ≡ Some (slice_range values (start_of 0 ends place) (get_or ends place 0))

pub list_at : {X : Type 0} (values : List X) (ends : List ℕ) (shown : List (List X)) (place : ℕ) → pieces 0 values ends ≡ shown → AreEnds 0 (length values) ends → place < length shown → IsListAt values ends shown place
list_at values ends shown place view h lt =
    let size : length ends ≡ length shown = sym (length-pieces 0 values ends) ∙ ap length view in
    let below : place < length ends = omega arith in
    let range = range_at 0 (length values) ends place h below in
    record { below = below; rises = range.rises; within = range.within; is = ap (λ lists. slice_get lists place) (sym view) ∙ piece_at 0 values ends place below }

-- the first of the lists that pass a test
module _ {X : Type 0} (p : X → Bool) (xs : List X) (i : ℕ) (d : X) (before : (k : ℕ) → k < i → p (get_or xs k d) ≡ false) where
  pub first_passes : (x : X) → slice_get xs i ≡ Some x → p x ≡ true → Some i ≡ position p xs
  first_passes x at passes =
      let lt : i < length xs = slice_get_within xs i x at in
      let here : p (get_or xs i d) ≡ true = ap p (get_or_from_slice_get xs i x d at) ∙ passes in
      let is : position_or_len p xs ≡ i = position_or_len_is p xs i d (omega arith) before (λ _. here) in
      rw (is, lt-ltb i (length xs) lt) refl

  pub none_passes : length xs ≡ i → None ≡ position p xs
  none_passes size =
      let is : position_or_len p xs ≡ i = position_or_len_is p xs i d (omega arith) before (λ lt. absurd (omega arith)) in
      rw (is, le-ltb i (length xs) (omega arith)) refl
