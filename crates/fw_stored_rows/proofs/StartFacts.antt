-- How many rows stand before each segment.
use Rattle.std.proofs.Common.{◌≡◌, ◌∙◌, ◌+◌, ◌-◌, ◌≤◌, ◌<◌, ◌++◌, ◌∷◌, [], ℕ, zero, suc, List, length, take, drop, get_or, refl, sym, ap, subst, below_more, arith}
use Rattle.std.specs.Prelude.{Some, None, slice_get}
use Rattle.std.proofs.Math.Seq.{drop-append-add}
use Rattle.std.proofs.lemmas.List.{drop-take, get_or_append_left, get_or_push, length-append, length_push, take-append-le}
use Rattle.std.proofs.lemmas.Option.{same_Some}
use Rattle.fw_charge.specs.Charge.{Charge}
use Rattle.fw_posted.specs.Rows.{rows_before_segment, segment_rows}
use Rattle.fw_posted.proofs.PartFacts.{count_next}

-- the starts of so many segments
pub record AreFirst (starts : List ℕ) (segments : List (List Charge)) (place : ℕ) : Type 0 where
  pub long : length starts ≡ place
  pub each : (k : ℕ) → k < place → get_or starts k 0 ≡ rows_before_segment segments k

pub first_more : (starts : List ℕ) (segments : List (List Charge)) (place start : ℕ) → AreFirst starts segments place → start ≡ rows_before_segment segments place
    → AreFirst (starts ++ start ∷ []) segments (place + 1)
first_more starts segments place start are is = record {
  long = let more = length_push starts start in omega (arith, are.long);
  each =
      below_more (λ k. get_or (starts ++ start ∷ []) k 0 ≡ rows_before_segment segments k) place
      (λ k below. get_or_append_left starts (start ∷ []) 0 k (omega (arith, are.long)) ∙ are.each k below)
      (get_or_push starts start 0 place are.long ∙ is);
}

-- where a row stands in the segment that has it
pub place_in : (segments : List (List Charge)) (k start place : ℕ) (rows : List Charge) → slice_get segments k ≡ Some rows → start ≡ rows_before_segment segments k
    → rows_before_segment segments k ≤ place → place < rows_before_segment segments (k + 1) → (rows_before_segment segments k + (place - start) ≡ place) × (place - start < length rows)
place_in segments k start place rows there is from until =
    let next = count_next segments k rows there in
    (omega (arith, is, from), omega (arith, is, next, from, until))

-- so many rows of a segment, from one of them on
pub run_there : (segments : List (List Charge)) (k from place run : ℕ) (rows : List Charge) → slice_get segments k ≡ Some rows → rows_before_segment segments k + from ≡ place → from + run ≤ length rows
    → take run (drop from rows) ≡ take run (drop place (segment_rows segments))
run_there [] k from place run rows there at within = absurd (let wrong : None ≡ Some rows = there in cc)
run_there (r ∷ segments) zero from place run rows there at within =
    let same : r ≡ rows = same_Some r rows there in
    let fits : from + run ≤ length r = subst (λ l. from + run ≤ length l) (sym same) within in
    let here : from ≡ place = omega (arith, at) in
    ap (λ l. take run (drop from l)) (sym same)
    ∙ sym (drop-take from run r)
    ∙ ap (drop from) (sym (take-append-le (from + run) r (segment_rows segments) fits))
    ∙ drop-take from run (segment_rows (r ∷ segments))
    ∙ ap (λ n. take run (drop n (segment_rows (r ∷ segments)))) here
run_there (r ∷ segments) (suc k) from place run rows there at within =
    let behind = rows_before_segment segments k + from in
    let moved : length r + behind ≡ place = omega (arith, at, length-append r (segment_rows (take k segments))) in
    run_there segments k from behind run rows there refl within
    ∙ ap (take run) (sym (drop-append-add r (segment_rows segments) behind))
    ∙ ap (λ n. take run (drop n (segment_rows (r ∷ segments)))) moved
