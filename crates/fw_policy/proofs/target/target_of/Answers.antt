use Rattle.std.proofs.Common.{◌∙◌, arith, rules, inr, refl}
use Rattle.std.proofs.lemmas.Int.{to_z-of_z}
use Rattle.std.specs.Int.{w64}
use Rattle.fw_policy.proofs.target.target_of.Goals as goal

pub returns-in_default : goal.returns-in_default
returns-in_default c = inr (refl, λ h. (rw (to_z-of_z w64 c.args.named.now.1 (search rules)) at c.in_default.ensures) h.1)

pub returns : goal.returns
returns c =
    let group = c.of_fields.ensures.group ∙ c.in_ok-from_str.ensures.ok in
    let weight = c.of_fields.ensures.weight in
    let is = rw (to_z-of_z w64 c.args.named.now.1 (search rules)) at c.in-Some.ensures in
    (group, rw weight is.0, record { group = rw group (omega arith); weight = rw weight is.1 })
