use Rattle.std.proofs.Common.{All, take}
use Rattle.fw_terms.specs.Spelling.{IsRuleUtf8}
use Rattle.fw_terms.proofs.spelled.policy_has_spelling.Given as goal

abbrev pub invariant-loop-rule : goal.invariant-loop-rule
invariant-loop-rule l = All IsRuleUtf8 (take l.rule-index l.one.rules)
