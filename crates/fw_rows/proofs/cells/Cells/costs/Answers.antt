use Rattle.std.proofs.Common.{refl, inl, inr, rules}
use Rattle.fw_rules.specs.Table.{FirstBroken, NoneBroken}
use Rattle.fw_rows.specs.Rules.{cost_rules}
use Rattle.fw_rows.proofs.cells.Cells.costs.Goals as goal

pub returns-in_default : goal.returns-in_default
unfolding FirstBroken cost_rules
returns-in_default c = inl ((λ h. c.in_default.ensures h.0.0 (rw c.text-billed_text.ensures h.0.1)), refl)

pub returns-in_default-amount_beside : goal.returns-in_default-amount_beside
unfolding FirstBroken cost_rules
returns-in_default-amount_beside c = inl ((λ h. c.in_default-amount_beside.ensures h.1.0 (rw c.text-effective_text.ensures h.1.1)), refl)

pub returns-then-not-is_in : goal.returns-then-not-is_in
unfolding FirstBroken cost_rules
returns-then-not-is_in c =
    let billed = rw c.text-billed_text.ensures at c.in-Some.ensures in
    let effective = rw c.text-effective_text.ensures at c.in-Some-amount_beside.ensures in
    inr ((λ none. none ((c.in-Some.billed, billed), (c.in-Some-amount_beside.effective, effective))), inl ((λ same. let yes_ = c.is_in.ensures.1 same in let not_ = c.if-not-is_in.true in cc), refl))

pub returns : goal.returns
unfolding NoneBroken cost_rules
returns c =
    let billed = rw c.text-billed_text.ensures at c.in-Some.ensures in
    let effective = rw c.text-effective_text.ensures at c.in-Some-amount_beside.ensures in
    let same = c.is_in.ensures.0 (search rules) in
    ((λ none. none ((c.in-Some.billed, billed), (c.in-Some-amount_beside.effective, effective)), (λ other. other same, tt)), record { billed = billed; effective = effective })
