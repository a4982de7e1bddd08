use Rattle.std.proofs.Common.{◌≡◌, map, take}
use Rattle.fw_series.proofs.top.lent.Given as goal

abbrev pub invariant-loop-entry : goal.invariant-loop-entry
invariant-loop-entry l = map (λ e. e.now) l.lent.items ≡ take l.entry-index l.entries
