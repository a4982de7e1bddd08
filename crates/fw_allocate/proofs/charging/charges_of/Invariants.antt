use Rattle.std.proofs.Common.{◌≡◌, take}
use Rattle.fw_allocate.specs.Charges.{charges_with}
use Rattle.fw_allocate.specs.GiftView.{texts}
use Rattle.fw_allocate.proofs.charging.charges_of.Given as goal

abbrev pub invariant-loop-group : goal.invariant-loop-group
invariant-loop-group l = l.charged.items ≡ charges_with l.direct l.gifts (texts (take l.group-index l.groups))
