use Rattle.std.proofs.Common.{arith, rules, ◌≡◌, ℕ, ℤ, ap, ◌∙◌, pos, nat_abs, to_z, of_z, w64}
use Rattle.std.proofs.lemmas.Int.{to_z-of_z}
use mir.Val.{SFits}
use Rattle.fw_terms.proofs.commitment.Purchase.nanos.Goals as goal

-- a cast of an amount that is at least 0 keeps it
cast_amount : (z : ℤ) (b : ℕ) → SFits w64 z → z ≡ pos b → nat_abs (to_z w64 (of_z w64 z)) ≡ b
cast_amount z b fits e = ap nat_abs (to_z-of_z w64 z fits ∙ e)

pub returns-clause-value : goal.returns-clause-value
returns-clause-value c =
    let fits : SFits w64 c.count.result = search rules in
    cast_amount _ _ fits (c.count.ensures.value ∙ c.billed.ensures)

pub returns-clause-few : goal.returns-clause-few
returns-clause-few c =
    let fits : SFits w64 c.count.result = search rules in
    let value = cast_amount _ _ fits (c.count.ensures.value ∙ c.billed.ensures) in
    let same = ap nat_abs (c.count.ensures.value ∙ c.billed.ensures) in
    let most = c.count.ensures.in_range in
    omega arith
