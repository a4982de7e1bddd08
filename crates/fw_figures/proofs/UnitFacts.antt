-- What rows used of a commitment in a range they could have used.
use Rattle.std.proofs.Common.{◌≡◌, ℕ, ◌-◌, ◌≤◌, List, [], ◌∷◌, Some, arith, sum_by}
use Rattle.std.specs.Prelude.{slice_get}
use Rattle.std.specs.List.{range_with_len}
use Rattle.std.proofs.lemmas.List.Sums.{sum_by-cons}
use Rattle.fw_charge.specs.Charge.{Charge}
use Rattle.fw_terms.specs.Commitment.{CommitmentValue}
use Rattle.fw_cover.specs.Applies.{is_in_term}
use Rattle.fw_cover.specs.Cover.{used_of}
use Rattle.fw_cover.specs.Hour.{hour_cover}
use Rattle.fw_cover.proofs.Sorting.{two_ways}
use Rattle.fw_amortise.specs.LineValue.{LineValue}
use Rattle.fw_amortise.specs.Lines.{rows_in}
use Rattle.fw_coverage.specs.Coverage.{coverage_of, in_term, used_in}
use Rattle.fw_finops.proofs.UsableFacts.{used_in_hours}
use Rattle.fw_figures.specs.Units.{usable_between}

-- outside of its term nothing is used of a commitment
in_hour : (cs : List CommitmentValue) (rows : List Charge) (hour place : ℕ) (c : CommitmentValue) → used_in cs rows (place, c) hour ≤ used_of place (hour_cover cs (rows_in hour rows) hour)
unfolding used_in in_term
in_hour cs rows hour place c = two_ways (is_in_term c hour) (λ holds. rw holds (omega arith)) (λ fails. rw fails (omega arith))

in_hours : (cs : List CommitmentValue) (rows : List Charge) (place : ℕ) (c : CommitmentValue) (hours : List ℕ) → sum_by (used_in cs rows (place, c)) hours ≤ sum_by (λ h. used_of place (hour_cover cs (rows_in h rows) h)) hours
in_hours cs rows place c [] = omega arith
in_hours cs rows place c (hour ∷ hours) =
    let rest = in_hours cs rows place c hours in
    let here = in_hour cs rows hour place c in
    let a = sum_by-cons (used_in cs rows (place, c)) hour hours in
    let b = sum_by-cons (λ h. used_of place (hour_cover cs (rows_in h rows) h)) hour hours in
    omega (arith, rest, here, a, b)

pub used_between : (cs : List CommitmentValue) (rows : List Charge) (lines : List LineValue) (from to place : ℕ) (c : CommitmentValue) → slice_get cs place ≡ Some c
    → (coverage_of cs rows lines from to (place, c)).used ≤ usable_between rows from to c
unfolding coverage_of usable_between
used_between cs rows lines from to place c at =
    let hours : List ℕ = range_with_len from (to - from) in
    let used = in_hours cs rows place c hours in
    let could = used_in_hours cs rows place c hours at in
    omega (arith, used, could)
