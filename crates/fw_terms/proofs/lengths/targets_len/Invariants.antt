use Rattle.std.proofs.Common.{◌≡◌, ◌≤◌, ◌+◌, ◌*◌, length, take}
use Rattle.std.specs.List.{flat_map}
use Rattle.fw_terms.specs.Spelling.{target}
use Rattle.fw_terms.specs.Lengths.{most_target_len}
use Rattle.fw_terms.proofs.lengths.targets_len.Given as goal

abbrev pub invariant-loop-one : goal.invariant-loop-one
invariant-loop-one l = (l.len ≡ 4 + length (flat_map target (take l.one-index l.targets))) × (l.len ≤ 4 + most_target_len * l.one-index)
