-- A row once in a unit: what its lines say together.
use Rattle.std.proofs.Common.{◌≡◌, ◌∙◌, ◌≤◌, ℕ, pos, ◌+ℤ◌, true, false, List, [], ◌∷◌, None, Option, Some, ap, arith, cond, filter, refl, zero, suc}
use Rattle.std.specs.Prelude.{◌≤ℤ◌, slice_get}
use Rattle.std.specs.List.{list_any}
use Rattle.std.proofs.lemmas.Int.{ints}
use Rattle.fw_charge.specs.Charge.{Charge}
use Rattle.fw_terms.specs.Commitment.{CommitmentValue}
use Rattle.fw_cover.specs.Applies.{applied}
use Rattle.fw_cover.specs.Hour.{quantity_of}
use Rattle.fw_cover.proofs.Sorting.{two_ways}
use Rattle.fw_amortise.specs.LineValue.{LineValue}
use Rattle.fw_finops.specs.Lines.{counts, counts_at, most_of, most_usable, unit_line}
use Rattle.fw_finops.specs.Listed.{billed_of_all}
use Rattle.fw_finops.specs.Usable.{usable, whole_at}
use Rattle.fw_finops.proofs.PricedFacts.{billed_cons}

none_billed : billed_of_all [] ≡ pos 0
unfolding billed_of_all
none_billed = refl

-- the line says the most
says_most : (hour : ℕ) (row : Charge) (cs : List CommitmentValue) → billed_of_all (most_of hour row cs) ≡ pos (most_usable hour row cs)
unfolding unit_line
says_most hour row [] = none_billed
says_most hour row (c ∷ cs) =
    let line : LineValue = unit_line hour row c (most_usable hour row (c ∷ cs)) in
    let one : billed_of_all (line ∷ []) ≡ pos (most_usable hour row (c ∷ cs)) +ℤ billed_of_all [] = billed_cons line [] in
    let none = none_billed in
    omega (arith, ints, one, none)

-- ---- its quantity
whole_quantity : (hour : ℕ) (row : Charge) (c : CommitmentValue) → counts hour row false c ≡ true → usable hour row c ≡ quantity_of row
unfolding counts usable
whole_quantity hour row c counted = by (applied c hour row) counted
  where
    by : (o : Option (Option ℕ)) → counts_at false o ≡ true → whole_at row o ≡ quantity_of row
    by None e = absurd (cc)
    by (Some None) e = refl
    by (Some (Some rate)) e = absurd (cc)

most_is_quantity : (hour : ℕ) (row : Charge) (cs : List CommitmentValue) → most_usable hour row (filter (counts hour row false) cs) ≡ cond (list_any (counts hour row false) cs) (quantity_of row) 0
most_is_quantity hour row [] = refl
most_is_quantity hour row (c ∷ cs) =
    let rest = most_is_quantity hour row cs in
    two_ways (counts hour row false c)
    (λ counted.
    let whole = whole_quantity hour row c counted in
    two_ways (list_any (counts hour row false) cs)
    (λ more. let here : most_usable hour row (filter (counts hour row false) cs) ≡ quantity_of row = rw more at rest in rw counted (omega (arith, whole, here)))
    (λ none. let here : most_usable hour row (filter (counts hour row false) cs) ≡ 0 = rw none at rest in rw counted (omega (arith, whole, here))))
    (λ other. rw other rest)

pub quantity_once : (cs : List CommitmentValue) (row : Charge) (hour : ℕ) → billed_of_all (most_of hour row (filter (counts hour row false) cs)) ≡ pos (cond (list_any (counts hour row false) cs) (quantity_of row) 0)
quantity_once cs row hour = says_most hour row (filter (counts hour row false) cs) ∙ ap pos (most_is_quantity hour row cs)

-- ---- its cost
within_most : (hour : ℕ) (row : Charge) (cs : List CommitmentValue) (place : ℕ) (c : CommitmentValue) → slice_get cs place ≡ Some c → counts hour row true c ≡ true → usable hour row c ≤ most_usable hour row (filter (counts hour row true) cs)
within_most hour row [] place c there counted = absurd (cc)
within_most hour row (d ∷ cs) zero c there counted =
    let same : d ≡ c = cc in
    rw same (rw counted (omega arith))
within_most hour row (d ∷ cs) (suc place) c there counted =
    let rest = within_most hour row cs place c there counted in
    two_ways (counts hour row true d)
    (λ first. rw first (omega (arith, rest)))
    (λ other. rw other rest)

pub cost_within : (cs : List CommitmentValue) (row : Charge) (hour place : ℕ) (c : CommitmentValue) → slice_get cs place ≡ Some c → counts hour row true c ≡ true → pos (usable hour row c) ≤ℤ billed_of_all (most_of hour row (filter (counts hour row true) cs))
cost_within cs row hour place c there counted =
    let most = says_most hour row (filter (counts hour row true) cs) in
    let within = within_most hour row cs place c there counted in
    omega (arith, ints, most, within)
