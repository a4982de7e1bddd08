use Rattle.std.proofs.Common.{List, subst}
use Rattle.fw_allocate.proofs.ChargeFacts.{zip_more}
use Rattle.fw_direct.specs.Sheets.{IsSum, SlotValue}
use Rattle.fw_direct.proofs.sheet.sums_of.Goals as goal
use Rattle.fw_sums.specs.Costs.{Cost}

pub loop-slot-preserved : goal.loop-slot-preserved
loop-slot-preserved c =
    let is = λ (slot : SlotValue) (sum : List Cost). IsSum slot.reports sum in
    rw c.in_ok-push.ensures.items
    (zip_more is c.args.slots.now c.loop-slot.sums.items c.loop-slot.slot-index c.slot-item.result c.in_ok-sum.field-0 c.loop-slot-test.true c.loop-slot.invariant
    (subst (λ slot. is slot c.in_ok-sum.field-0) c.slot-item.is c.in_ok-sum.ensures))
