use Rattle.std.proofs.Common.{◌≡◌, ◌≤◌, ◌+◌, ◌*◌, length, take}
use Rattle.std.specs.List.{flat_map}
use Rattle.fw_terms.specs.Spelling.{rule}
use Rattle.fw_terms.specs.Lengths.{most_rule_len}
use Rattle.fw_terms.proofs.lengths.policy_len.Given as goal

abbrev pub invariant-loop-rule : goal.invariant-loop-rule
invariant-loop-rule l = (l.len ≡ (4 + length l.one.key) + (4 + length (flat_map rule (take l.rule-index l.one.rules)))) × (l.len ≤ 1032 + most_rule_len * l.rule-index)
