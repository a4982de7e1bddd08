use Rattle.std.proofs.Common.{map, drop}
use Rattle.fw_toml.specs.Tree.{stated}
use Rattle.fw_policy.proofs.RuleFacts.{Read}
use Rattle.fw_policy.proofs.rule.rules_of.Given as goal

abbrev pub invariant-loop-table : goal.invariant-loop-table
invariant-loop-table l = Read (map (λ t. stated t.now) l.tables) l.rules.items (map (λ t. stated t.now) (drop l.table-index l.tables))
