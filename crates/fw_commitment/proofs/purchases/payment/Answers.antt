use Rattle.fw_commitment.proofs.purchases.payment.Goals as goal

pub returns-in_err-at-clause-value : goal.returns-in_err-at-clause-value
returns-in_err-at-clause-value c = rw c.from_residual.ensures (λ p is. c.in_err-at.ensures.value p.0 is.1)

pub returns-in_err-billed-clause-value : goal.returns-in_err-billed-clause-value
returns-in_err-billed-clause-value c = rw c.from_residual-in_err-billed.ensures (λ p is. c.in_err-billed.ensures p.1 is.2)
