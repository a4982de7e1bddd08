use Rattle.std.proofs.Common.{◌≡◌, map, take, string_bytes}
use Rattle.fw_series.proofs.top.most_charged.Given as goal

abbrev pub invariant-loop-entry : goal.invariant-loop-entry
invariant-loop-entry l = map string_bytes l.names.items ≡ map (λ e. e.now.group) (take l.entry-index l.entry-items)
