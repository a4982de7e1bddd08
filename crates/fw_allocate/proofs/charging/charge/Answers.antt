use Rattle.std.proofs.Common.{◌≡◌, ◌≤◌, length, arith, subst}
use Rattle.std.proofs.lemmas.Slice.Zip.{AllZip-long}
use Rattle.std.specs.List.{AllZip}
use Rattle.fw_allocate.specs.Charges.{AreCharges, AreGroups, IsGift, charges_with}
use Rattle.fw_allocate.specs.GiftView.{texts}
use Rattle.fw_allocate.proofs.ChargeFacts.{if_ok}
use Rattle.fw_allocate.proofs.charging.charge.Goals as goal

pub charges_of-requires-clause-few : goal.charges_of-requires-clause-few
charges_of-requires-clause-few c =
    let rules = c.rules-rules.result.now in
    let long = AllZip-long (IsGift c.args.direct.now rules) rules c.in_ok-gifts.gifts.items c.in_ok-gifts.ensures in
    let few : length rules ≤ 64 = rw c.rules-rules.ensures.value c.rules-rules.ensures.in_limits.few in
    rw c.deref.ensures.value (omega (arith, long, few))

pub returns : goal.returns
returns c =
    let direct = c.args.direct.now in
    let same = c.rules-rules.ensures.value in
    let gifts = subst (λ rules. AllZip (IsGift direct rules) rules c.in_ok-gifts.gifts.items) same c.in_ok-gifts.ensures in
    let groups = subst (λ rules. AreGroups direct rules (texts c.in_ok-groups.groups.items)) same c.in_ok-groups.ensures in
    if_ok (λ charged. charged.items ≡ charges_with direct c.deref.result.now (texts c.deref-2.result.now)) (λ charged. AreCharges direct c.args.policy.now.rules charged.items) c.charges_of.result
    (λ charged is. record { gifts = c.in_ok-gifts.gifts.items; are_gifts = gifts; groups = texts c.in_ok-groups.groups.items; are_groups = groups; costs = rw (← c.deref.ensures.value, ← c.deref-2.ensures.value) is })
    c.charges_of.ensures
