use Rattle.std.proofs.Common.{◌≡◌, ◌<◌, ◌≤◌, ◌≤ℤ◌, pos, nat_abs, ℤ, arith, codes, rules, w64, to_z, of_z, sym, subst, refl, negsuc}
use Rattle.std.proofs.lemmas.Int.{ints, to_z-of_z}
use mir.Val.{SFits}
use Rattle.fw_toml.specs.Tree.{stated}
use Rattle.fw_terms.specs.Commitment.{most_hours}
use Rattle.fw_commitment.specs.Fields.{HasInteger}
use Rattle.fw_commitment.specs.Rules.{IsTermLength}
use Rattle.fw_commitment.proofs.RuleFacts.{field-fits, field-missing, field-over}
use Rattle.fw_commitment.proofs.ValueFacts.{integer-none, integer-not}
use Rattle.fw_commitment.specs.declared.fault.CommitmentField.TheVariants as field
use Rattle.fw_commitment.proofs.id_and_term.hours.Goals as goal
use Rattle.fw_commitment.proofs.id_and_term.hours.Goals.{then-hours-lt1-via-then-hours-lt1, then-hours-lt1-via-else-hours-lt1+then-hours}

pub returns-in_default : goal.returns-in_default
returns-in_default c = λ _.
    let ms = stated c.args.table.now in let name = codes "hours" in
    field-missing field.Hours (HasInteger ms name) IsTermLength (integer-none ms name (rw c.name.ensures at c.in_default.ensures))

pub returns-then-hours-lt1 : goal.returns-then-hours-lt1
returns-then-hours-lt1 c = λ _.
    let ms = stated c.args.table.now in let name = codes "hours" in
    let z = c.in-Some.hours in
    let has : HasInteger ms name z = rw c.name.ensures at c.in-Some.ensures in
    let fits : SFits w64 z = search rules in
    let out : ¬ IsTermLength z = λ within. elim c.then-hours-lt1.branch [
      | then-hours-lt1-via-then-hours-lt1 w ↦ let test = w.if-hours-lt1.true in let low = within.0 in grind (arith, ints)
      | then-hours-lt1-via-else-hours-lt1+then-hours w ↦ let test = w.if-hours.true in let high = within.1 in grind (arith, ints)
    ] in
    field-over field.Hours (HasInteger ms name) IsTermLength z has (integer-not IsTermLength ms name z has out)

-- a number of hours that is within the limits is a natural number
natural : (z : ℤ) → SFits w64 z → IsTermLength z → (pos (nat_abs (to_z w64 (of_z w64 z))) ≡ z) × (0 < nat_abs (to_z w64 (of_z w64 z))) × (nat_abs (to_z w64 (of_z w64 z)) ≤ most_hours)
natural (pos n) fits within = rw (to_z-of_z w64 (pos n) fits) (refl, omega (arith, ints, within.0), omega (arith, ints, within.1))
natural (negsuc n) fits within = absurd (omega (arith, ints, within.0))

pub returns : goal.returns
returns c =
    let ms = stated c.args.table.now in let name = codes "hours" in
    let z = c.in-Some.hours in
    let has : HasInteger ms name z = rw c.name.ensures at c.in-Some.ensures in
    let fits : SFits w64 z = search rules in
    let low : pos 1 ≤ℤ z = let test = c.if-hours-lt1.false in grind (arith, ints) in
    let high : z ≤ℤ pos most_hours = let test = c.if-hours.false in grind (arith, ints) in
    let whole = natural z fits (low, high) in
    (field-fits field.Hours (HasInteger ms name) IsTermLength z has (low, high), (subst (HasInteger ms name) (sym whole.0) has, whole.1, whole.2))
