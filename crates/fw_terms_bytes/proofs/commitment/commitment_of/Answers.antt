use Rattle.std.proofs.Common.{arith, sym, ◌∙◌}
use Rattle.fw_terms_bytes.specs.FieldView.{fields_view}
use Rattle.fw_terms_bytes.proofs.CommitmentFormat.{commitment_refused, commitment_taken, commitment_kept, commitment_fails, few_purchases}
use Rattle.fw_terms_bytes.proofs.commitment.commitment_of.Goals as goal

pub agree-requires : goal.agree-requires
agree-requires c = few_purchases c.args.bytes.now (fields_view c.in-Ok.fields, c.in-Ok.rest.now) (λ i. omega (arith, c.type_inv.bytes i)) c.in-Ok.ensures.read

pub returns-then-not-agree : goal.returns-then-not-agree
returns-then-not-agree c = commitment_refused c.args.bytes.now (fields_view c.in-Ok.fields, c.in-Ok.rest.now) c.in-Ok.ensures.read (sym c.agree.ensures ∙ c.if-not-agree.true)

pub into_commitment-requires : goal.into_commitment-requires
into_commitment-requires c = record {
  in_limits = commitment_kept c.args.bytes.now (fields_view c.in-Ok.fields, c.in-Ok.rest.now) (λ i. omega (arith, c.type_inv.bytes i)) c.in-Ok.ensures.read (sym c.agree.ensures ∙ c.if-not-agree.false);
  some_capacity = c.in-Ok.ensures.some_capacity;
}

pub returns-in_ok-commitment-in-Ok : goal.returns-in_ok-commitment-in-Ok
returns-in_ok-commitment-in-Ok c = rw c.in_ok-commitment-in-Ok.ensures (commitment_taken c.args.bytes.now (fields_view c.in-Ok.fields, c.in-Ok.rest.now) c.in-Ok.ensures.read (sym c.agree.ensures ∙ c.if-not-agree.false))

pub returns-in-Err : goal.returns-in-Err
returns-in-Err c = commitment_fails c.args.bytes.now c.in-Err.e c.in-Err.ensures.read
