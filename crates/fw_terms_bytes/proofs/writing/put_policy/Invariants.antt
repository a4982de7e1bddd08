use Rattle.std.proofs.Common.{◌≡◌, ◌++◌, length, take}
use Rattle.std.specs.List.{flat_map}
use Rattle.fw_bytes.specs.Spelling.{number32, text}
use Rattle.fw_terms.specs.Spelling.{rule}
use Rattle.fw_terms_bytes.proofs.writing.put_policy.Given as goal

abbrev pub invariant-loop-rule : goal.invariant-loop-rule
invariant-loop-rule l = l.out.items ≡ l.fn.out.items ++ (text l.one.key ++ (number32 (length l.one.rules) ++ flat_map rule (take l.rule-index l.one.rules)))
