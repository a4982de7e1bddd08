use Rattle.std.proofs.Common.{◌≡◌, ◌≤◌, ◌+◌, ◌*◌, length, take}
use Rattle.std.specs.List.{flat_map}
use Rattle.fw_charge.specs.Spelling.{tag}
use Rattle.fw_charge.proofs.lengths.tags_len.Given as goal

abbrev pub invariant-loop-one : goal.invariant-loop-one
invariant-loop-one l = (l.len ≡ 4 + length (flat_map tag (take l.one-index l.all))) × (l.len ≤ 4 + 2056 * l.one-index)
