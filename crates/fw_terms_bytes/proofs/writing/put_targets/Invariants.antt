use Rattle.std.proofs.Common.{◌≡◌, ◌++◌, length, take}
use Rattle.std.specs.List.{flat_map}
use Rattle.fw_bytes.specs.Spelling.{number32}
use Rattle.fw_terms.specs.Spelling.{target}
use Rattle.fw_terms_bytes.proofs.writing.put_targets.Given as goal

abbrev pub invariant-loop-one : goal.invariant-loop-one
invariant-loop-one l = l.out.items ≡ l.fn.out.items ++ (number32 (length l.targets) ++ flat_map target (take l.one-index l.targets))
