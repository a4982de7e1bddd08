use Rattle.std.proofs.Common.{subst}
use Rattle.std.specs.Option.{option_copied}
use Rattle.fw_allocate.proofs.ChargeFacts.{zip_more}
use Rattle.fw_direct.specs.Sheets.{IsChargedPart}
use Rattle.fw_direct.proofs.sheet.parts_of.Goals as goal

pub loop-slot-preserved : goal.loop-slot-preserved
loop-slot-preserved c =
    let is = IsChargedPart (option_copied c.args.policy) c.args.key.now in
    rw c.in_ok-push.ensures.items
    (zip_more is c.args.slots.now c.loop-slot.parts.items c.loop-slot.slot-index c.slot-item.result c.in_ok-part.field-0 c.loop-slot-test.true c.loop-slot.invariant
    (subst (λ slot. is slot c.in_ok-part.field-0) c.slot-item.is c.in_ok-part.ensures))
