use Rattle.std.proofs.Common.{◌≡◌, ◌++◌, ◌==◌, map, filter, take}
use Rattle.fw_charge.specs.Charge.{hour_of}
use Rattle.fw_amortise.specs.Lines.{purchase_line}
use Rattle.fw_amortise.proofs.hour.push_purchases_of.Given as goal

abbrev pub invariant-loop-purchase : goal.invariant-loop-purchase
invariant-loop-purchase l =
    l.lines.items ≡ l.initial.lines.items ++ map (purchase_line l.hour l.commitment) (filter (λ p. hour_of p.at == l.hour) (take l.purchase-index l.purchase-items))
