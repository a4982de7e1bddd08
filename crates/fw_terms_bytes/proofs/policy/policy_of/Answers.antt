use Rattle.std.proofs.Common.{◌≡◌, true, false, string_bytes, arith, sym, ap, ◌∙◌}
use Rattle.std.proofs.lemmas.Result.{err_from_is_err_and}
use Rattle.fw_terms_bytes.specs.Reading.{rules_agree}
use Rattle.fw_terms_bytes.proofs.PolicyFormat.{policy_refused, policy_taken, policy_kept, policy_fails}
use Rattle.fw_terms_bytes.proofs.policy.policy_of.Goals as goal

pub returns-in_err-key : goal.returns-in_err-key
returns-in_err-key c =
    let p = err_from_is_err_and c.from_residual.result c.from_residual.ensures.1 in
    rw (p.1, p.2) (policy_fails c.args.bytes.now c.in_err-key.field-0.0 c.in_err-key.ensures)

pub returns-then-not-rules_agree : goal.returns-then-not-rules_agree
returns-then-not-rules_agree c =
    let p = c.in_ok-key in
    let broken : rules_agree p.rules.items ≡ false = ap rules_agree (sym c.deref.ensures.value) ∙ (sym c.rules_agree.ensures ∙ c.if-not-rules_agree.true) in
    policy_refused c.args.bytes.now ((string_bytes p.key, p.rules.items), p.rest.now) p.ensures broken

pub of_fields-requires : goal.of_fields-requires
of_fields-requires c =
    let p = c.in_ok-key in
    let agree : rules_agree p.rules.items ≡ true = ap rules_agree (sym c.deref.ensures.value) ∙ (sym c.rules_agree.ensures ∙ c.if-not-rules_agree.false) in
    policy_kept c.args.bytes.now ((string_bytes p.key, p.rules.items), p.rest.now) (λ i. omega (arith, c.type_inv.bytes i)) p.ensures agree

pub returns : goal.returns
returns c =
    let p = c.in_ok-key in
    let agree : rules_agree p.rules.items ≡ true = ap rules_agree (sym c.deref.ensures.value) ∙ (sym c.rules_agree.ensures ∙ c.if-not-rules_agree.false) in
    rw c.of_fields.ensures (policy_taken c.args.bytes.now ((string_bytes p.key, p.rules.items), p.rest.now) p.ensures agree)
