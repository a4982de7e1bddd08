use Rattle.std.proofs.Common.{◌≡◌, sym, ap, ◌∙◌, subst}
use Rattle.fw_terms.specs.declared.commitment.CommitmentFields.{CommitmentFields}
use Rattle.fw_terms.specs.Commitment.{CommitmentValue, IsCommitment, with_purchase}
use Rattle.fw_terms.specs.CommitmentView.{commitment_of}
use Rattle.fw_terms.proofs.Adding.{purchase_kept}
use Rattle.fw_terms.proofs.commitment.Commitment.with_purchase.Goals as goal

pub of_fields-requires-clause-in_limits : goal.of_fields-requires-clause-in_limits
of_fields-requires-clause-in_limits c =
    let one = c.args.self.now in
    let purchase = c.args.purchase in
    let is : IsCommitment one = subst IsCommitment c.self.view_is c.self.invariant.0 in
    let old = ap (λ (f : CommitmentFields). with_purchase (commitment_of f) purchase) c.deref.ensures ∙ ap (λ (d : CommitmentValue). with_purchase d purchase) c.self.view_is in
    let made : commitment_of c.in_ok-new.field-0.value ≡ with_purchase one purchase = ap commitment_of c.in_ok-new.ensures.ok ∙ (c.in_ok-fields.ensures.value ∙ old) in
    subst IsCommitment (sym made) (purchase_kept one purchase is c.requires.taken c.requires.dated)
