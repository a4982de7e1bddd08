use Rattle.std.proofs.Common.{take}
use Rattle.std.specs.List.{AllZip}
use Rattle.fw_allocate.specs.Charges.{IsGift}
use Rattle.fw_allocate.proofs.charging.gifts_of.Given as goal

abbrev pub invariant-loop-rule : goal.invariant-loop-rule
invariant-loop-rule l = AllZip (IsGift l.direct l.rules) (take l.rule-index l.rules) l.gifts.items
