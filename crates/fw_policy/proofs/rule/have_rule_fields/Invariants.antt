use Rattle.fw_toml.specs.Tree.{HasOnly, stated}
use Rattle.fw_policy.specs.Policy.{rule_fields}
use Rattle.fw_policy.proofs.SearchFacts.{HoldsBelow}
use Rattle.fw_policy.proofs.rule.have_rule_fields.Given as goal

abbrev pub invariant-loop-table : goal.invariant-loop-table
invariant-loop-table l = HoldsBelow (λ t. HasOnly rule_fields (stated t.now)) l.tables l.table-index
