use Rattle.std.proofs.Common.{◌≡◌, take}
use Rattle.fw_terms.proofs.copies.purchases_and.Given as goal

abbrev pub invariant-loop-purchase : goal.invariant-loop-purchase
invariant-loop-purchase l = l.all.items ≡ take l.purchase-index l.purchases
