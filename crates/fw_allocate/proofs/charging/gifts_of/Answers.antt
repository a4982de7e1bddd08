use Rattle.std.proofs.Common.{subst}
use Rattle.fw_allocate.specs.Charges.{IsGift}
use Rattle.fw_allocate.proofs.ChargeFacts.{zip_more}
use Rattle.fw_allocate.proofs.charging.gifts_of.Goals as goal

pub loop-rule-preserved : goal.loop-rule-preserved
loop-rule-preserved c =
    let is = IsGift c.args.direct.now c.args.rules.now in
    rw c.in_ok-push.ensures.items
    (zip_more is c.args.rules.now c.loop-rule.gifts.items c.loop-rule.rule-index c.rule-item.result c.in_ok-of_rule.field-0 c.loop-rule-test.true c.loop-rule.invariant
    (subst (λ rule. is rule c.in_ok-of_rule.field-0) c.rule-item.is c.in_ok-of_rule.ensures))
