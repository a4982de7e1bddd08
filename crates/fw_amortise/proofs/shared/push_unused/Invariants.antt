use Rattle.std.proofs.Common.{◌≡◌, ◌++◌, map, take}
use Rattle.fw_amortise.specs.Lines.{unused_line}
use Rattle.fw_amortise.proofs.shared.push_unused.Given as goal

abbrev pub invariant-loop-share : goal.invariant-loop-share
invariant-loop-share l = l.lines.items ≡ l.initial.lines.items ++ map (unused_line l.hour l.commitment) (take l.share-index l.shares)
