use Rattle.std.proofs.Common.{◌≡◌, ◌≤◌, ◌+◌, ◌*◌, length, take}
use Rattle.std.specs.List.{flat_map}
use Rattle.fw_terms.specs.Spelling.{rate}
use Rattle.fw_terms.specs.Lengths.{most_rate_len}
use Rattle.fw_terms.proofs.lengths.rates_len.Given as goal

abbrev pub invariant-loop-one : goal.invariant-loop-one
invariant-loop-one l = (l.len ≡ 4 + length (flat_map rate (take l.one-index l.rates))) × (l.len ≤ 4 + most_rate_len * l.one-index)
