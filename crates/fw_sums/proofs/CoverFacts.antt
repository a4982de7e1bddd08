-- What commitments bring to the groups of a key in hours, as it is kept.
use Rattle.std.proofs.Common.{◌≡◌, ◌∙◌, ◌⊎◌, ⊎_elim, None, Option, Some, ◌++◌, ◌∷◌, [], Bool, All, ℕ, ◌+◌, ◌<◌, List, append_assoc, arith, drop, get_or, length, map, string_bytes, subst, sym, take}
use Rattle.std.proofs.lemmas.List.Elements.{All-append, All-drop, All-push, All-take}
use Rattle.std.specs.Prelude.{if◌then◌else◌, slice_index}
use Rattle.fw_charge.specs.Charge.{Charge}
use Rattle.fw_terms.specs.Commitment.{CommitmentValue}
use Rattle.fw_cover.proofs.Sorting.{two_ways}
use Rattle.fw_cover.specs.Hour.{hour_cover, left_of}
use Rattle.fw_cover.specs.declared.hour.HourCover.{HourCover}
use Rattle.fw_cover.specs.HourCovers.{IsHourCover}
use Rattle.fw_sums.specs.Corrections.{corrections}
use Rattle.fw_sums.specs.Costs.{Cost, costs_of}
use Rattle.fw_sums.specs.ReportCache.{AreKeptUnder, AreOwnSums, IsFound, IsKept, KeepsMore, kept_at}
use Rattle.fw_sums.specs.Hours.{row_cost}
use Rattle.fw_sums.specs.Sums.{Counts, CountsHour}
use Rattle.fw_sums.specs.declared.cache.HourSum.{HourSum}
use Rattle.fw_sums.specs.declared.cache.HourSums.{HourSums}
use Rattle.fw_sums.specs.declared.cache.KeySums.{KeySums}
use Rattle.fw_sums.specs.declared.groups.Groups.{Groups}
use Rattle.fw_sums.proofs.CorrectionFacts.{hour_corrected}

-- what is left of a row
pub left_in_cover : (cs : List CommitmentValue) (rows : List Charge) (hour : ℕ) (h : HourCover) → IsHourCover cs rows hour h → (r : ℕ) → slice_index h.row_left.items r ≡ left_of rows (hour_cover cs rows hour) r
unfolding left_of
left_in_cover cs rows hour h cover r =
    let whole = cover.row_left r in
    rw (← cover.taken) (omega (arith, whole))

-- where what commitments bring to an hour was added to its rows, its lines were counted
pub own_added : (old new sums : Groups) (key : List ℕ) (cs : List CommitmentValue) (rows : List Charge) (hour : ℕ) → AreOwnSums cs rows key hour sums
    → ((costs more : List Cost) → Counts old costs → Counts sums more → Counts new (costs ++ more)) → (costs : List Cost) → Counts old (costs ++ map (row_cost key) rows) → CountsHour new costs key cs rows hour
own_added old new sums key cs rows hour own added costs counts =
    let lost = corrections key rows (left_of rows (hour_cover cs rows hour)) in
    let before = costs ++ map (row_cost key) rows in
    hour_corrected new costs key cs rows hour own.own own.are_own
    (subst (Counts new) (sym (append_assoc before (costs_of key own.own) lost)) (added before (costs_of key own.own ++ lost) counts own.counts))

-- an element more, or the list as it was
pub all_pushed : {X : Type 0} (P : X → Type 0) (pushed : Bool) (xs ys : List X) (x : X) → ys ≡ (if pushed then xs ++ x ∷ [] else xs) → All P xs → P x → All P ys
all_pushed P pushed xs ys x is all one = subst (All P) (sym is)
    (two_ways pushed
    (λ yes. rw yes (All-push P xs x all one))
    (λ no. rw no all))

-- one element less
pub all_removed : {X : Type 0} (P : X → Type 0) (xs ys : List X) (n : ℕ) → ys ≡ take n xs ++ drop (n + 1) xs → All P xs → All P ys
all_removed P xs ys n is all = subst (All P) (sym is) (All-append P (take n xs) (drop (n + 1) xs) (All-take P n xs all) (All-drop P (n + 1) xs all))

-- what is kept of the key at a place
pub kept_of : (cs : List CommitmentValue) (rows : List Charge) (keys : List KeySums) (place : ℕ) (at : KeySums) (key : List ℕ) → All (λ k. IsKept cs rows (string_bytes k.key) k.kept) keys → place < length keys
    → at ≡ get_or keys place at → string_bytes at.key ≡ key → IsKept cs rows key at.kept
kept_of cs rows keys place at key all below is same =
    subst (λ k. IsKept cs rows k at.kept) same (subst (λ (k : KeySums). IsKept cs rows (string_bytes k.key) k.kept) (sym is) (all place at below))

-- one hour more, or what was kept before
module _ (old new : HourSums) (one : HourSum) (step : (h : ℕ) → (kept_at new h ≡ kept_at old h) ⊎ ((h ≡ one.hour) × (kept_at new h ≡ Some one.sums))) where
  pub found_kept : (cs : List CommitmentValue) (rows : List Charge) (key : List ℕ) → IsFound cs rows key one → AreKeptUnder cs rows key old → AreKeptUnder cs rows key new
  unfolding IsFound
  found_kept cs rows key found kept h = ⊎_elim
      (λ (same : kept_at new h ≡ kept_at old h). rw same (kept h))
      (λ (put : (h ≡ one.hour) × (kept_at new h ≡ Some one.sums)). rw (put.1, put.0) found)
      (step h)

  pub found_more : KeepsMore old new
  found_more h none = ⊎_elim
      (λ (same : kept_at new h ≡ kept_at old h). sym same ∙ none)
      (λ (put : (h ≡ one.hour) × (kept_at new h ≡ Some one.sums)). absurd (some_none put.1 none))
      (step h)
    where
      some_none : {o : Option Groups} → o ≡ Some one.sums → o ≡ None → ⊥
      some_none is none = cc
