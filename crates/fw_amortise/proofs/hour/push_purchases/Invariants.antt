use Rattle.std.proofs.Common.{◌≡◌, ◌++◌, take}
use Rattle.std.specs.List.{flat_map}
use Rattle.fw_amortise.specs.Lines.{purchase_lines_of}
use Rattle.fw_amortise.proofs.hour.push_purchases.Given as goal

abbrev pub invariant-loop-commitment : goal.invariant-loop-commitment
invariant-loop-commitment l = l.lines.items ≡ l.initial.lines.items ++ flat_map (purchase_lines_of l.hour) (take l.commitment-index l.commitments)
